use Rattle.std.proofs.Common.{◌≡◌, take}
use Rattle.std.specs.List.{fold}
use Rattle.yang_text.specs.Statements.{declaration}
use Rattle.yang_values.specs.Values.{values_by}
use Rattle.yang_values.proofs.values.values_along.Given as goal

abbrev pub invariant-loop-statement : goal.invariant-loop-statement
invariant-loop-statement l = l.left ≡ fold (λ left s. values_by l.base left (declaration s.now)) l.fn.values (take l.statement-index l.statements)
