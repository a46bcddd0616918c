use Rattle.std.proofs.Common.{sym, subst}
use Rattle.std.proofs.lemmas.Result.{IfOk-weaker}
use Rattle.move_core.specs.Moves.{place}
use Rattle.plan_check.specs.Backwards.{JoinsOrBegins, LeadsOf, RoundOrBegins}
use Rattle.plan_check.specs.WantsAt.{AreWantsAt}
use Rattle.plan_check.proofs.Rounds.{round_or}
use Rattle.plan_check.proofs.listed.join_preceding.Goals as goal

pub preceding_moves-requires-clause-wants : goal.preceding_moves-requires-clause-wants
preceding_moves-requires-clause-wants c =
    let h = c.args.here.now in
    subst (AreWantsAt h.ctx.now.models h.cur.now (place c.args.mv.now)) (sym c.deref.ensures.value)
    (subst (λ p. AreWantsAt h.ctx.now.models h.cur.now p c.in_ok-wants.wants.items) c.place.ensures c.in_ok-wants.ensures)

pub join_all-requires-clause-wants : goal.join_all-requires-clause-wants
join_all-requires-clause-wants c =
    let h = c.args.here.now in
    subst (AreWantsAt h.ctx.now.models h.cur.now (place c.args.mv.now)) (sym c.deref.ensures.value)
    (subst (λ p. AreWantsAt h.ctx.now.models h.cur.now p c.in_ok-wants.wants.items) c.place.ensures c.in_ok-wants.ensures)

pub join_all-requires-clause-goals : goal.join_all-requires-clause-goals
join_all-requires-clause-goals c = c.is_as_in_goal.ensures

pub returns : goal.returns
returns c =
    let h = c.args.here.now in
    let m = c.args.mv.now in
    let old = c.args.found.now.items in
    let new = c.join_all.new.found.items in
    IfOk-weaker c.join_all.result (JoinsOrBegins h m (LeadsOf h c.deref-2.result.now m) old new) (RoundOrBegins h m old new)
    (λ b joins. round_or h m c.in_ok-moves.moves.items old new c.in_ok-moves.ensures b
    (subst (λ l. JoinsOrBegins h m (LeadsOf h l m) old new b) c.deref-2.ensures.value joins)) c.join_all.ensures
