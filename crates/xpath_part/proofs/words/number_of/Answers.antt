use Rattle.std.proofs.Common.{arith}
use Rattle.xpath_part.proofs.WordTexts.{value_below}
use Rattle.xpath_part.proofs.words.number_of.Goals as goal

pub overflow_mul-value : goal.overflow_mul-value
overflow_mul-value c =
    let below = value_below c.loop-digit.digit-index c.loop-digit.value (omega arith) c.loop-digit.invariant.below in
    omega (arith, below)

pub overflow_add-value : goal.overflow_add-value
overflow_add-value c =
    let below = value_below c.loop-digit.digit-index c.loop-digit.value (omega arith) c.loop-digit.invariant.below in
    omega (arith, below, c.type_inv.digits c.loop-digit.digit-index)
