use Rattle.std.proofs.Common.{◌≡◌, ℕ, List, map, take}
use Rattle.std.specs.List.{flat_map}
use Rattle.yang_text.specs.Statements.{declaration}
use Rattle.yang_scope.specs.Faults.{least_of}
use Rattle.yang_faults.specs.Fields.{field_faults}
use Rattle.yang_faults.specs.NameSets.{IsSetOf}
use Rattle.yang_faults.proofs.fields.note_fields.Given as goal

abbrev pub invariant-loop-statement : goal.invariant-loop-statement
invariant-loop-statement l = (known : List (List ℕ)) → IsSetOf l.keys.names known
    → l.least ≡ least_of l.initial.least (flat_map (field_faults l.file known) (map declaration (take l.statement-index l.statements)))
