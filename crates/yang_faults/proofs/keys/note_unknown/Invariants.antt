use Rattle.std.proofs.Common.{◌≡◌, ℕ, List, take}
use Rattle.std.specs.List.{flat_map}
use Rattle.yang_scope.specs.Faults.{least_of}
use Rattle.yang_faults.specs.Keys.{unknown_leaf}
use Rattle.yang_scope.specs.Pieces.{texts}
use Rattle.yang_faults.specs.NameSets.{IsSetOf}
use Rattle.yang_faults.proofs.keys.note_unknown.Given as goal

abbrev pub invariant-loop-name : goal.invariant-loop-name
invariant-loop-name l = (known : List (List ℕ)) → IsSetOf l.leaves.names known
    → l.least ≡ least_of l.initial.least (flat_map (unknown_leaf l.file l.line known) (texts (take l.name-index l.names)))
