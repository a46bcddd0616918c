use Rattle.std.proofs.Common.{◌∙◌, sym, ap}
use Rattle.yang_values.proofs.IntegerParses.{parsed}
use Rattle.yang_values.specs.Numbers.{is_integer}
use Rattle.yang_values.proofs.numbers.bound_number.Goals as goal

pub returns-then-is_integer : goal.returns-then-is_integer
returns-then-is_integer c =
    c.ok.ensures.value
    ∙ parsed c.args.text.now c.parse.result (sym (ap is_integer c.as_bytes.ensures.value) ∙ sym c.is_integer.ensures ∙ c.if-is_integer.true) c.parse.ensures.value.0
