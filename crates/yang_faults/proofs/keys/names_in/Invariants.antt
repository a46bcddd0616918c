use Rattle.std.proofs.Common.{◌≡◌}
use Rattle.yang_faults.specs.Keys.{non_empty}
use Rattle.yang_scope.specs.Pieces.{texts}
use Rattle.yang_faults.proofs.keys.names_in.Given as goal

abbrev pub invariant-loop-name : goal.invariant-loop-name
invariant-loop-name l =
    (goal.iterator-loop-name).can_next l.name-iterator
    × (goal.iterator-loop-name).is_finite l.name-iterator
    × (texts l.names.items ≡ non_empty (texts l.yielded))
