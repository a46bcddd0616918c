use Rattle.std.proofs.Common.{[], ◌∷◌, ◌∙◌, sym, subst}
use Rattle.plan_check.specs.WantsAt.{AreWantsAt}
use Rattle.plan_check.proofs.WantWalks.{none_there, nothing}
use Rattle.plan_check.proofs.seeds.is_free.Goals as goal

pub returns : goal.returns
returns c =
    let models = c.args.here.now.ctx.now.models in
    let config = c.args.here.now.goal.now in
    let w = c.args.whole.now in
    let place = w.table.now ∷ w.key.now ∷ c.args.field.now ∷ [] in
    let ats = c.in_ok-wants.wants.items in
    let there = c.deref.ensures.value in
    let are = subst (λ p. AreWantsAt models config p ats) c.in_ok-place.ensures c.in_ok-wants.ensures in (
      λ t. none_there models config place ats are (sym there ∙ c.are_none.ensures.0 t),
      λ free. c.are_none.ensures.1 (there ∙ nothing models config place ats are free),
    )
