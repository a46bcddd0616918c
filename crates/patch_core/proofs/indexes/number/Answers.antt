use Rattle.patch_core.proofs.Numbers.{too_large}
use Rattle.patch_core.proofs.indexes.number.Goals as goal

pub returns-in_err-sum : goal.returns-in_err-sum
returns-in_err-sum c = rw c.from_residual.ensures (too_large c.args.digits.now c.loop-digit.digit-index c.loop-digit.sum _ c.loop-digit-test.true c.loop-digit.invariant c.in_err-sum.ensures)
