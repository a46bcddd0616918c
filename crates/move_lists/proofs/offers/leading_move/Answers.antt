use Rattle.std.proofs.Common.{sym, subst, All}
use Rattle.move_core.specs.Contexts.{rulebook}
use Rattle.move_core.specs.Generated.{IsRestoring}
use Rattle.move_lists.specs.Firsts.{LeavesGoals}
use Rattle.move_lists.specs.Leading.{IsLeast}
use Rattle.move_lists.specs.Offers.{IsLeading}
use Rattle.move_lists.proofs.LeadingMoves.{first_leading, none_leading}
use Rattle.move_lists.proofs.MoveEffects.{all_leave_goals}
use Rattle.move_lists.proofs.offers.leading_move.Goals as goal

pub leading-requires : goal.leading-requires
leading-requires c =
    subst (All (LeavesGoals c.args.goal.now)) (sym c.items.ensures)
    (all_leave_goals c.args.cur.now c.args.goal.now (rulebook c.args.ctx.now) c.args.offers.now c.requires.offers.each)

pub returns-in-None : goal.returns-in-None
returns-in-None c =
    let from = c.args.start.now in
    let to = c.args.goal.now in
    record {
      leads = none_leading (rulebook c.args.ctx.now) from c.args.cur.now to c.args.offers.now c.requires.offers
          (subst (All (IsRestoring from to)) c.items.ensures c.in-None.ensures);
    }

pub returns-in_ok-copy-in-Some : goal.returns-in_ok-copy-in-Some
returns-in_ok-copy-in-Some c =
    let from = c.args.start.now in
    let to = c.args.goal.now in
    let first = c.in-Some.first.now in
    record {
      leads = subst (IsLeading (rulebook c.args.ctx.now) from c.args.cur.now to) (sym c.in_ok-copy-in-Some.ensures)
          (first_leading (rulebook c.args.ctx.now) from c.args.cur.now to c.args.offers.now c.requires.offers first
          (subst (λ gs. IsLeast from to gs first) c.items.ensures c.in-Some.ensures));
    }
