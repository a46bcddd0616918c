use Rattle.std.proofs.Common.{◌≡◌, take}
use Rattle.std.specs.List.{flat_map}
use Rattle.yang_text.specs.Declarations.{argument}
use Rattle.yang_text.specs.Statements.{declaration}
use Rattle.yang_scope.specs.Faults.{least_of}
use Rattle.yang_scope.specs.Meanings.{base_of}
use Rattle.yang_values.specs.BoundFaults.{bad_if_bounds}
use Rattle.yang_values.specs.Values.{restricted_values}
use Rattle.yang_values.proofs.bound_faults.note_bad_bounds.Given as goal

abbrev pub invariant-loop-child : goal.invariant-loop-child
invariant-loop-child l =
    let d = declaration l.statement in
    l.least ≡ least_of l.fn.least
    (flat_map (λ s. bad_if_bounds (base_of l.names l.number (argument d)) (restricted_values l.names l.number d) l.file (declaration s)) (take l.child-index l.child-items))
