use Rattle.std.proofs.Common.{◌≤◌, subst}
use Rattle.gcu_requests.specs.GoalTables.{AgreeAt}
use Rattle.gcu_requests.proofs.TableNames.{all_passed, passed_below}
use Rattle.gcu_requests.proofs.tables_elsewhere.first_difference.Goals as goal

pub returns-then-not-agree : goal.returns-then-not-agree
returns-then-not-agree c = (
  c.if-not-agree.ensures,
  passed_below (AgreeAt c.args.ctx.now c.args.of.now c.args.other.now) c.args.of.now c.loop-i.i c.loop-i.invariant
      c.name_at-name.result.now
      c.len-i-end.ensures.formed.shaped.rising c.name_at-name.ensures,
)

pub returns : goal.returns
returns c =
    all_passed (AgreeAt c.args.ctx.now c.args.of.now c.args.other.now) c.args.of.now c.loop-i.i c.loop-i.invariant
    (subst (λ n. n ≤ c.loop-i.i) c.len-i-end.ensures.len c.loop-i-test.false)
