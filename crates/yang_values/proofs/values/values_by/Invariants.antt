use Rattle.std.proofs.Common.{◌≡◌, take}
use Rattle.std.specs.List.{fold}
use Rattle.yang_text.specs.Statements.{declaration}
use Rattle.yang_values.specs.Values.{values_left}
use Rattle.yang_values.proofs.values.values_by.Given as goal

abbrev pub invariant-loop-child : goal.invariant-loop-child
invariant-loop-child l = l.left ≡ fold (λ left s. values_left l.base l.values left (declaration s)) l.values (take l.child-index l.child-items)
