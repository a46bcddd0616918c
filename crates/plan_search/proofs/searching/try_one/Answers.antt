use Rattle.std.proofs.Common.{◌∷◌, [], ◌++◌, refl, sym, ap, subst, ◌∙◌, true≢false}
use Rattle.std.specs.List.{Contains}
use Rattle.move_core.specs.Moves.{step}
use Rattle.plan_search.proofs.SearchInvariants.{leads_to_goal, leads_to_new, nowhere_new}
use Rattle.plan_search.proofs.searching.try_one.Goals as goal

pub returns-in-None-clause-found : goal.returns-in-None-clause-found
returns-in-None-clause-found g c =
    let refused = rw c.in-None.is at c.in_ok-try_move.ensures.next in (
      refl,
      nowhere_new _ c.args.met.now _ _ c.args.mv c.hashed_top-top.result.now c.requires.trying c.hashed_top-top.ensures
          (λ allowed. absurd (refused (subst (λ d. (g.S.Expanding.problem c.args.source.now).IsAllowed d c.args.mv) (sym c.config.ensures) allowed))),
    )

pub after-hashed-requires : goal.after-hashed-requires
after-hashed-requires g c =
    let h = rw c.in-Some.is at c.in_ok-try_move.ensures.next in
    h.1 ∙ ap (λ d. step d c.args.mv) c.config.ensures

pub returns-then-same-clause-found : goal.returns-then-same-clause-found
returns-then-same-clause-found g c =
    let h = rw c.in-Some.is at c.in_ok-try_move.ensures.next in
    let p = g.S.Expanding.problem c.args.source.now in (
      refl,
      leads_to_goal _ c.args.met.now _ _ c.args.mv c.hashed_top-top.result.now c.requires.trying c.hashed_top-top.ensures
          (subst (λ d. p.IsAllowed d c.args.mv) c.config.ensures h.0)
          (sym c.goal.ensures ∙ sym (c.same.ensures.0 c.if-same.true) ∙ c.after-hashed.ensures ∙ h.1 ∙ ap (λ d. step d c.args.mv) c.config.ensures),
    )

pub returns-then-branch-clause-found : goal.returns-then-branch-clause-found
returns-then-branch-clause-found g c =
    let h = rw c.in-Some.is at c.in_ok-try_move.ensures.next in
    let p = g.S.Expanding.problem c.args.source.now in
    let new = rw c.if-branch.true at c.in_ok-insert.ensures in
    let copy = c.in_ok-copy.ensures in (
      new.1 ∙ ap (λ x. c.args.met.now ++ x ∷ []) copy,
      leads_to_new _ c.args.met.now _ _ c.args.mv c.hashed_top-top.result.now c.after-hashed.result
          (g.met.S.Expanding.lawful c.args.source.now) c.requires.trying c.hashed_top-top.ensures
          (subst (λ d. p.IsAllowed d c.args.mv) c.config.ensures h.0)
          (c.after-hashed.ensures ∙ h.1 ∙ ap (λ d. step d c.args.mv) c.config.ensures)
          (λ e. true≢false (sym (c.same.ensures.1 (e ∙ sym c.goal.ensures)) ∙ c.if-same.false))
          (λ there. new.0 (subst (Contains c.args.met.now) (sym copy) there)),
    )

pub returns-else-branch-clause-found : goal.returns-else-branch-clause-found
returns-else-branch-clause-found g c =
    let h = rw c.in-Some.is at c.in_ok-try_move.ensures.next in
    let known = rw c.if-branch.false at c.in_ok-insert.ensures in
    let copy = c.in_ok-copy.ensures in (
      known.1,
      nowhere_new _ c.args.met.now _ _ c.args.mv c.hashed_top-top.result.now c.requires.trying c.hashed_top-top.ensures
          (λ allowed. subst (Contains c.args.met.now) (copy ∙ c.after-hashed.ensures ∙ h.1 ∙ ap (λ d. step d c.args.mv) c.config.ensures) known.0),
    )
