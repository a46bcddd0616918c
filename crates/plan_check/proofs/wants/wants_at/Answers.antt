use Rattle.std.proofs.Common.{◌≡◌, List, inl, inr, sym, subst, arith}
use Rattle.conf_check.specs.WantRuns.{GivesFirst}
use Rattle.conf_check.specs.declared.want_iter.WantAt.{WantAt}
use Rattle.conf_check.specs.declared.want_iter.WantIter.{WantIter}
use Rattle.conf_doc.specs.declared.configuration.Config.{Config}
use Rattle.move_core.specs.Moves.{Place}
use Rattle.yang_model.specs.ModelSets.{ModelSet}
use Rattle.plan_check.specs.WantsAt.{GathersOne}
use Rattle.plan_check.proofs.WantWalks.{Gathers, all_gathered, gathered, passed, short_none, walk_begins}
use Rattle.plan_check.proofs.wants.wants_at.Goals as goal

pub returns-then-len-lt2 : goal.returns-then-len-lt2
returns-then-len-lt2 c =
    let long = c.len.ensures.len in
    let test = c.if-len-lt2.true in
    short_none c.args.models.now c.args.config.now c.args.place.now (omega (arith, long, test)) c.new-found.result.items c.new-found.ensures.items

pub loop-at-init : goal.loop-at-init
loop-at-init c =
    let e = c.entry_wants-at-items.ensures in (
      tt,
      tt,
      subst (λ s. Gathers c.args.models.now c.args.config.now c.args.place.now s c.new-found.result.items) (sym c.into_iter-at-iterator.ensures.into_iter_gives)
          (walk_begins c.args.models.now c.args.config.now c.args.place.now c.name_at.result.now c.name_at-2.result.now c.entry_wants-at-items.result
          c.name_at.ensures.name c.name_at-2.ensures.name e.models e.config e.ahead c.new-found.result.items c.new-found.ensures.items),
    )

either : (models : ModelSet) (config : Config) (p : Place) (s t : WantIter) (old new : List WantAt) (at : WantAt) → Gathers models config p s old → GivesFirst s at t
    → t.models.now ≡ s.models.now → t.config.now ≡ s.config.now → GathersOne p at old new → Gathers models config p t new
either models config p s t old new at inv gives models_stay config_stays (inl one) = gathered models config p s old inv at t gives models_stay config_stays one.0 new one.1
either models config p s t old new at inv gives models_stay config_stays (inr none) =
    subst (Gathers models config p t) (sym none.1) (passed models config p s old inv at t gives models_stay config_stays none.0)

pub loop-at-preserved : goal.loop-at-preserved
loop-at-preserved c =
    let step = c.in-Some.ensures.steps in (
      tt,
      tt,
      either c.args.models.now c.args.config.now c.args.place.now c.loop-at.at-iterator c.next.new.self c.loop-at.found.items c.gather.new.found.items c.in-Some.at c.loop-at.invariant.2
          step.gives step.models step.config c.in_ok-gather.ensures,
    )

pub returns : goal.returns
returns c =
    all_gathered c.args.models.now c.args.config.now c.args.place.now c.loop-at.at-iterator c.loop-at.found.items c.loop-at.invariant.2 c.in-None.ensures.steps.gives.0
