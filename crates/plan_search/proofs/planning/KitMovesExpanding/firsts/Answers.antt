use Rattle.std.proofs.Common.{IfOk, sym, subst}
use Rattle.move_core.specs.Contexts.{rulebook}
use Rattle.move_lists.specs.Firsts.{AreFirstsOf}
use Rattle.move_lists.specs.Offers.{AreOffersOf}
use Rattle.plan_search.proofs.planning.KitMovesExpanding.firsts.Goals as goal

pub first_moves-requires : goal.first_moves-requires
first_moves-requires g c =
    let s = c.args.self.now in
    record {
      offers =
          subst (λ d. AreOffersOf (rulebook s.ctx.now) c.args.cur.now d c.args.offers) (sym c.config.ensures) c.requires.offers;
    }

pub returns : goal.returns
returns g c =
    let s = c.args.self.now in
    record {
      firsts =
          subst (λ d. IfOk c.first_moves.result (AreFirstsOf (rulebook s.ctx.now) s.start.now c.args.cur.now d)) c.config.ensures
          c.first_moves.ensures.firsts;
    }
