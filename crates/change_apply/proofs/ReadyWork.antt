-- All bytes of a change made ready.
use Rattle.std.proofs.Common.{◌≡◌, ◌≤◌, ℕ, List, length, false, Ok, sym, ap, ◌∙◌, subst, arith}
use Rattle.std.specs.List.{AllPass}
use Rattle.std.proofs.lemmas.List.{length-map}
use Rattle.conf_doc.specs.Configuration.{tree}
use Rattle.conf_doc.specs.Reading.{reading}
use Rattle.conf_doc.specs.Shaping.{shaping}
use Rattle.conf_doc.specs.Texts.{file_text}
use Rattle.conf_doc.specs.declared.configuration.Config.{Config}
use Rattle.conf_store.specs.Files.{is_step_name, last_step}
use Rattle.conf_store.specs.declared.loaded.Stored.{Stored}
use Rattle.conf_store.proofs.FileTexts.{text_holds}
use Rattle.move_core.specs.Plans.{conf}
use Rattle.move_core.specs.declared.moves.Move.{Move}
use Rattle.move_core.specs.declared.settings.Settings.{Settings}
use Rattle.change_apply.specs.Change.{change_of, goal}
use Rattle.change_apply.specs.Work.{AreReady, AreReadySteps, IsReady, change_in, count}
use Rattle.change_apply.specs.declared.ready.ReadyStep.{ReadyStep}
use Rattle.change_apply.specs.declared.ready.Work.{Work}
use Rattle.change_apply.specs.Stages.{first_steps}

module _ (work : Work) (stored : Stored) (moves : List Move) (services : List (List ℕ)) (settings : Settings)
    (same : work.stored ≡ stored) (steps : AreReadySteps stored.config moves services settings work.steps) where
  pub change_is : change_in work ≡ change_of stored moves services settings
  change_is = λ i. record { stored = same i; moves = steps.moves_are i; restarts = steps.restarts_are i }

  as_many : count work ≡ length moves
  as_many = sym (length-map work.steps (λ (s : ReadyStep). s.mv)) ∙ ap (λ (l : List Move). length l) steps.moves_are

  goal_is : goal (change_in work) ≡ conf stored.config moves (length moves)
  goal_is = λ i. conf (same i).config (steps.moves_are i) (length (steps.moves_are i))

  all_ready : AreReady work.stored.config (change_in work).moves work.steps
  all_ready =
      subst (λ (s : Stored). AreReady s.config (change_in work).moves work.steps) (sym same)
      (subst (λ ms. AreReady stored.config ms work.steps) (sym steps.moves_are) steps.ready)

  pub is_ready : length moves ≤ last_step → AllPass is_step_name stored.steps
      → reading work.stored_text.items ≡ Ok (tree stored.config) → shaping (tree stored.config) ≡ Ok stored.config
      → (config : Config) → config ≡ conf stored.config moves (length moves) → work.goal.config ≡ config → work.goal.steps ≡ first_steps (length moves) → work.goal.folded ≡ false
      → work.goal_text.items ≡ file_text config → reading work.goal_text.items ≡ Ok (tree config) → shaping (tree config) ≡ Ok config → IsReady work
  is_ready few names reads shapes config goal_so goal_config goal_steps unfolded goal_text goal_reads goal_shapes = record {
    steps_ready = all_ready;
    few = omega (arith, few, as_many);
    names = subst (λ (s : Stored). AllPass is_step_name s.steps) (sym same) names;
    stored_text = text_holds work.stored_text.items stored.config reads shapes ∙ ap (λ (s : Stored). Ok s.config) (sym same);
    goal_config = goal_config ∙ goal_so ∙ sym goal_is;
    goal_steps = goal_steps ∙ ap first_steps (sym as_many);
    goal_unfolded = unfolded;
    goal_text = goal_text ∙ ap file_text (goal_so ∙ sym goal_is);
    goal_holds = text_holds work.goal_text.items config goal_reads goal_shapes ∙ ap (λ (c : Config). Ok c) (sym goal_config);
  }
