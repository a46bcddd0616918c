use Rattle.plan_check.proofs.TouchedWants.{both_hold}
use Rattle.plan_check.proofs.rules.has_no_dependency.Goals as goal

pub returns-then-wants_hold : goal.returns-then-wants_hold
returns-then-wants_hold c =
    let both = both_hold c.args.ctx.now c.args.cur.now c.args.next.now c.args.mv.now in (
      λ t. both.0 (c.wants_hold.ensures.0 c.if-wants_hold.true, c.wants_hold-then-wants_hold.ensures.0 t),
      λ rule. c.wants_hold-then-wants_hold.ensures.1 (both.1 rule).1,
    )

pub returns-else-wants_hold : goal.returns-else-wants_hold
returns-else-wants_hold c =
    let both = both_hold c.args.ctx.now c.args.cur.now c.args.next.now c.args.mv.now in
    (λ t. absurd (cc (t, c.if-wants_hold.false)), λ rule. c.wants_hold.ensures.1 (both.1 rule).0)
