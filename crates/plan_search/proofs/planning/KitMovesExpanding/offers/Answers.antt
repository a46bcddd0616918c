use Rattle.std.proofs.Common.{IfOk, sym, subst}
use Rattle.move_core.specs.Contexts.{IsValidIn, rulebook}
use Rattle.move_lists.specs.Offers.{AreOffersOf}
use Rattle.plan_search.proofs.planning.KitMovesExpanding.offers.Goals as goal

pub offered_moves-requires-clause-goal : goal.offered_moves-requires-clause-goal
offered_moves-requires-clause-goal g c = subst (IsValidIn c.args.self.now.ctx.now) (sym c.config.ensures) c.requires.ready.0.1

pub returns-clause-offers : goal.returns-clause-offers
returns-clause-offers g c =
    let s = c.args.self.now in
    subst (λ d. IfOk c.offered_moves.result (AreOffersOf (rulebook s.ctx.now) c.args.cur.now d)) c.config.ensures c.offered_moves.ensures.offers
