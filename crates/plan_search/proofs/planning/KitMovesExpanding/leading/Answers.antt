use Rattle.std.proofs.Common.{MatchOption, sym, subst}
use Rattle.move_core.specs.Contexts.{rulebook}
use Rattle.move_lists.specs.Offers.{AreOffersOf, HasNoLeading, IsLeading}
use Rattle.plan_search.proofs.Parts.{first_part, if_ok}
use Rattle.plan_search.proofs.planning.KitMovesExpanding.leading.Goals as goal

pub leading_move-requires : goal.leading_move-requires
leading_move-requires g c =
    let s = c.args.self.now in
    record {
      offers =
          subst (λ d. AreOffersOf (rulebook s.ctx.now) c.args.cur.now d c.args.offers.now) (sym c.config-goal.ensures)
          c.requires.offers;
    }

pub returns : goal.returns
returns g c =
    let s = c.args.self.now in
    let found = c.in_ok-found.found in
    let cur = c.args.cur.now in
    record {
      part =
          if_ok c.moves_of.result (λ ms is.
          first_part s.ctx.now s.start.now s.goal.now cur found ms.items
          (subst (λ d. MatchOption found (HasNoLeading (rulebook s.ctx.now) s.start.now cur d) (IsLeading (rulebook s.ctx.now) s.start.now cur d))
          c.config-goal.ensures c.in_ok-found.ensures.leads) is)
          c.moves_of.ensures;
    }
