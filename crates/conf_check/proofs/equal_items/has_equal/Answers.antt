use Rattle.std.proofs.Common.{true, false}
use Rattle.conf_check.proofs.EqualItems.{none_equal}
use Rattle.conf_check.proofs.equal_items.has_equal.Goals as goal

pub returns-then-is_rising : goal.returns-then-is_rising
returns-then-is_rising c = (λ h. absurd (cc), λ e. absurd (none_equal true c.args.texts.now (c.is_rising.ensures c.if-is_rising.true) e))

pub returns-then-is_rising-2 : goal.returns-then-is_rising-2
returns-then-is_rising-2 c = (λ h. absurd (cc), λ e. absurd (none_equal false c.args.texts.now (c.is_rising-2.ensures c.if-is_rising-2.true) e))
