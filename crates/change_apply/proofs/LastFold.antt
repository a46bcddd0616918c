-- The last fold, by the bytes that are ready for it.
use Rattle.std.proofs.Common.{◌≡◌, ℕ, List, Option, Ok, sym, ap, ◌∙◌, subst}
use Rattle.std.specs.Prelude.{IfSome}
use Rattle.std.specs.List.{AllPass}
use Rattle.host_core.specs.Crashes.{Left, LeavesOnly}
use Rattle.host_core.specs.State.{State}
use Rattle.conf_doc.specs.Texts.{file_text}
use Rattle.conf_doc.specs.declared.configuration.Config.{Config}
use Rattle.conf_store.specs.Changes.{AreLeft, Changes, Settles}
use Rattle.conf_store.specs.Files.{is_step_name}
use Rattle.conf_store.specs.Folds.{IsFolded, KeepsStored, StandsFor}
use Rattle.conf_store.specs.Stored.{config_in}
use Rattle.change_apply.specs.Change.{Change, goal, steps}
use Rattle.change_apply.specs.Ends.{Stops}
use Rattle.change_apply.specs.Stages.{AtFolded, AtStep, first_steps}
use Rattle.change_apply.specs.Work.{IsReady, change_in, count}
use Rattle.change_apply.specs.declared.errors.ApplyFault.TheVariants.{Disk}
use Rattle.change_apply.specs.declared.ready.Work.{Work}
use Rattle.change_apply.proofs.DueSteps.{count_is}
use Rattle.change_apply.proofs.FoldStages.{IsGoal, folding_last, goal_at, last_folded, last_stops}
use Rattle.change_apply.proofs.Moments.{LeavesOf}
use Rattle.change_apply.proofs.StepFiles.{all_named}

module _ (work : Work) (ready : IsReady work) where
  abbrev change : Change
  change = change_in work

  is_goal : IsGoal change work.goal
  is_goal = record {
    config = ready.goal_config;
    steps_are = ready.goal_steps ∙ ap first_steps (sym (count_is work));
    unfolded = ready.goal_unfolded;
  }

  all_steps : (o p : Option State) → AtStep change (count work) o p → AtStep change (steps change) o p
  all_steps o p at = subst (λ k. AtStep change k o p) (sym (count_is work)) at

  pub goal_names : AllPass is_step_name work.goal.steps
  goal_names = subst (AllPass is_step_name) (sym ready.goal_steps) (all_named (count work))

  pub goal_stands : (o p : Option State) → AtStep change (count work) o p → IfSome p (λ s. StandsFor work.goal s.files)
  goal_stands o p at = goal_at change work.goal is_goal o p (all_steps o p at)

  holds : config_in (file_text (goal change)) ≡ Ok (goal change)
  holds = sym (ap config_in ready.goal_text) ∙ ready.goal_holds ∙ ap (λ (c : Config). Ok c) ready.goal_config

  pub steps_folded : (bytes : List ℕ) → bytes ≡ work.goal_text.items → (o p n : Option State) → AtStep change (count work) o p
      → Settles (IsFolded bytes) p n → AtFolded change o n
  steps_folded bytes is o p n at ends =
      last_folded change holds o p n (all_steps o p at) (subst (λ b. Settles (IsFolded b) p n) (is ∙ ready.goal_text) ends)

  pub fold_fails : (k : ℕ) → k ≡ count work → (o p n : Option State) → AtStep change (count work) o p → Changes KeepsStored p n → Stops change (Disk k) o n
  fold_fails k is o p n at ends =
      subst (λ j. Stops change (Disk j) o n) (count_is work ∙ sym is) (last_stops change o p n (all_steps o p at) ends)

  pub while_folded : {H : Type 0} (moment : H → ℕ) (left_since : H → ℕ → Left → Type 0) (o p : Option State) (old new : H) → AtStep change (count work) o p
      → IfSome p (λ s. LeavesOnly moment left_since old new (AreLeft KeepsStored s)) → LeavesOf moment left_since change o old new
  while_folded moment left_since o p old new at run = folding_last change moment left_since o p old new (all_steps o p at) run
