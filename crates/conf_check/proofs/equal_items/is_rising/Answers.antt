use Rattle.std.proofs.Common.{sym}
use Rattle.conf_check.proofs.EqualItems.{rising_more, rising_last, rising_none}
use Rattle.conf_check.proofs.equal_items.is_rising.Goals as goal

pub loop-text-preserved-else-not-comes_before : goal.loop-text-preserved-else-not-comes_before
loop-text-preserved-else-not-comes_before c = λ rising. c.loop-text.invariant
    (rising_more c.args.by_length c.comes_before.result c.in-Some.text.now c.in-Some-first.next.now c.as_str.result.now c.as_str-in-Some-first.result.now
    c.loop-text.rest.now c.in-Some.behind.now c.in-Some.ensures.cases.0 c.in-Some-first.ensures.value c.as_str.ensures.text c.as_str-in-Some-first.ensures.text
    c.if-not-comes_before.false c.comes_before.ensures rising)

pub loop-text-preserved : goal.loop-text-preserved
loop-text-preserved c = λ rising. c.loop-text.invariant
    (rising_last c.args.by_length c.in-Some.text.now c.loop-text.rest.now c.in-Some.behind.now c.in-Some.ensures.cases.0 (sym c.in_default-first.ensures.value))

pub returns : goal.returns
returns c = λ _. c.loop-text.invariant (rising_none c.args.by_length c.loop-text.rest.now c.in_default.ensures.cases)
