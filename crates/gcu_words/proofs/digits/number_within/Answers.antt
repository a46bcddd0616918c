use Rattle.std.proofs.Common.{arith}
use Rattle.gcu_words.proofs.Decimals.{greater, too_large}
use Rattle.gcu_words.proofs.digits.number_within.Goals as goal

pub returns-then-sum-from-clause-number : goal.returns-then-sum-from-clause-number
returns-then-sum-from-clause-number c =
    let more = greater c.args.digits.now c.loop-digit.digit-index c.loop-digit.sum c.loop-digit-test.true c.loop-digit.invariant.number_so_far in
    too_large c.args.most c.args.digits.now (omega arith)
