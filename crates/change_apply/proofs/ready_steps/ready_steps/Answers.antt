use Rattle.std.proofs.Common.{◌≡◌, ◌<◌, ◌∷◌, [], ◌++◌, List, length, map, Some, option_map, arith, ap, sym, subst, ◌∙◌}
use Rattle.std.proofs.lemmas.List.{length-map, length-take-le}
use Rattle.std.proofs.lemmas.Option.{slice_get-map}
use Rattle.conf_doc.specs.WellFormed.{IsConfig}
use Rattle.conf_doc.specs.declared.configuration.Config.{Config}
use Rattle.move_core.specs.Moves.{IsDefined, step}
use Rattle.move_core.specs.Plans.{conf}
use Rattle.move_core.specs.declared.moves.Move.{Move}
use Rattle.change_apply.specs.Change.{restarts_of}
use Rattle.change_apply.specs.Work.{AreReady}
use Rattle.change_apply.specs.declared.ready.ReadyStep.{ReadyStep}
use Rattle.change_apply.proofs.ReadySteps.{conf_next, defined_at, get_to_slice, push_more, ready_more, ready_none}
use Rattle.change_apply.proofs.StepFiles.{conf_start}
use Rattle.change_apply.proofs.ready_steps.ready_steps.Goals as goal

pub loop-k-init : goal.loop-k-init
loop-k-init c = record {
  moves = ap (λ (l : List ReadyStep). map (λ s. s.mv) l) c.new-steps.ensures;
  restarts = ap (λ (l : List ReadyStep). map (λ s. s.restarts) l) c.new-steps.ensures;
  config = c.in_ok-config.ensures.copy ∙ sym (conf_start c.args.start.now c.args.plan.now);
  formed = c.in_ok-config.ensures.formed;
  ready = subst (AreReady c.args.start.now c.args.plan.now) (sym c.new-steps.ensures) (ready_none c.args.start.now c.args.plan.now);
}

pub step-requires : goal.step-requires
step-requires c =
    subst (λ x. IsDefined x c.at-mv.result.now) (sym c.loop-k.invariant.config)
    (defined_at c.args.start.now c.args.plan.now c.loop-k.k c.at-mv.result.now c.requires.defined c.at-mv.ensures
    (subst IsConfig c.loop-k.invariant.config c.loop-k.invariant.formed))

pub loop-k-preserved : goal.loop-k-preserved
loop-k-preserved c =
    let s : ReadyStep = c.in_ok-ready_step.field-0 in
    let mv : Move = c.at-mv.result.now in
    let pushed : c.push.new.self ≡ c.loop-k.steps ++ s ∷ [] = c.in_ok-push.ensures.ok in
    let low : c.loop-k.k < length c.args.plan.now = omega (arith, c.loop-k-test.true, c.len-k-end.ensures) in
    let there = get_to_slice c.args.services.now c.loop-k.k c.index-services-k.result (omega (arith, low, c.requires.lists)) c.index-services-k.is in
    let next : c.in_ok-config-2.config ≡ step (conf c.args.start.now c.args.plan.now c.loop-k.k) mv = c.in_ok-config-2.ensures.step ∙ ap (λ (x : Config). step x mv) c.loop-k.invariant.config in
    let long : length c.loop-k.steps ≡ c.loop-k.k =
    sym (length-map c.loop-k.steps (λ (s : ReadyStep). s.mv)) ∙ ap (λ (l : List Move). length l) c.loop-k.invariant.moves ∙ length-take-le c.loop-k.k c.args.plan.now (omega (arith, low)) in
    record {
      moves = ap (λ (l : List ReadyStep). map (λ s. s.mv) l) pushed ∙ push_more (λ (s : ReadyStep). s.mv) c.loop-k.steps s c.args.plan.now c.loop-k.k mv c.at-mv.ensures c.in_ok-ready_step.ensures.mv c.loop-k.invariant.moves;
      restarts =
          ap (λ (l : List ReadyStep). map (λ s. s.restarts) l) pushed
          ∙ push_more (λ (s : ReadyStep). s.restarts) c.loop-k.steps s (map (restarts_of c.args.settings.now) c.args.services.now) c.loop-k.k (restarts_of c.args.settings.now c.items.result.now)
          (slice_get-map (restarts_of c.args.settings.now) c.args.services.now c.loop-k.k ∙ ap (option_map (restarts_of c.args.settings.now)) there ∙ ap (λ x. Some (restarts_of c.args.settings.now x)) (sym c.items.ensures))
          c.in_ok-ready_step.ensures.restarts c.loop-k.invariant.restarts;
      config = next ∙ sym (conf_next c.args.start.now c.args.plan.now c.loop-k.k mv c.at-mv.ensures)
          ∙ ap (λ k. conf c.args.start.now c.args.plan.now k) (omega arith);
      formed = c.in_ok-config-2.ensures.formed;
      ready =
          subst (AreReady c.args.start.now c.args.plan.now) (sym pushed)
          (ready_more c.args.start.now c.args.plan.now c.loop-k.steps s c.loop-k.k long c.loop-k.invariant.ready (c.at-mv.ensures ∙ ap (λ (m : Move). Some m) (sym c.in_ok-ready_step.ensures.mv))
          (subst (IsDefined (conf c.args.start.now c.args.plan.now c.loop-k.k)) (sym c.in_ok-ready_step.ensures.mv)
          (defined_at c.args.start.now c.args.plan.now c.loop-k.k mv c.requires.defined c.at-mv.ensures (subst IsConfig c.loop-k.invariant.config c.loop-k.invariant.formed)))
          (subst IsConfig (next ∙ ap (step (conf c.args.start.now c.args.plan.now c.loop-k.k)) (sym c.in_ok-ready_step.ensures.mv)) c.in_ok-config-2.ensures.formed) c.in_ok-ready_step.ensures.ready);
    }
