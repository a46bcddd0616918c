use Rattle.std.proofs.Common.{map, arith}
use Rattle.plan_check.specs.OneEntry.{IsUnreadBy}
use Rattle.plan_check.proofs.OneEntry.{each_more, when_false}
use Rattle.plan_check.proofs.PairNames.{within}
use Rattle.plan_check.proofs.validity.is_unread.Goals as goal

pub loop-i-init : goal.loop-i-init
loop-i-init c = λ j name lt at. absurd (omega (arith, lt))

pub loop-i-preserved : goal.loop-i-preserved
loop-i-preserved c =
    each_more (IsUnreadBy c.args.models.now c.args.table.now) (map (λ t. t.0) c.args.config.now)
    c.loop-i.i c.name_at.result.now c.name_at.ensures
    (when_false c.may_read.result c.if-may_read.false c.may_read.ensures) c.loop-i.invariant

pub returns : goal.returns
returns c = λ _ i name at.
    let below = within c.args.config.now i name at in
    c.loop-i.invariant i name (omega (arith, below, c.len-i-end.ensures.len, c.loop-i-test.false)) at
