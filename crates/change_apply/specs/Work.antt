-- The bytes of a change that is ready, and what is known of them.
use Rattle.std.specs.Prelude.{◌≡◌, ◌≤◌, ℕ, suc, false, List, [], ◌∷◌, map, length, Some, Ok, slice_get}
use Rattle.std.specs.List.{AllPass}
use Rattle.conf_doc.specs.Texts.{file_text}
use Rattle.conf_doc.specs.declared.configuration.Config.{Config}
use Rattle.conf_store.specs.Files.{is_step_name, last_step, step_name}
use Rattle.conf_store.specs.Steps.{IsStep}
use Rattle.conf_store.specs.Stored.{config_in}
use Rattle.patch_core.specs.Reading.{patch}
use Rattle.move_core.specs.Operations.{op}
use Rattle.move_core.specs.Plans.{conf}
use Rattle.move_core.specs.declared.moves.Move.{Move}
use Rattle.move_core.specs.declared.settings.Settings.{Settings}
use Rattle.change_apply.specs.Acknowledgements.{ack}
use Rattle.change_apply.specs.Change.{Change, goal, restarts_of, step_text, steps}
use Rattle.change_apply.specs.Stages.{first_steps}
use Rattle.change_apply.specs.declared.ready.ReadyStep.{ReadyStep}
use Rattle.change_apply.specs.declared.ready.Work.{Work}

-- the change that these bytes are of
abbrev pub change_in : Work → Change
change_in work = record {
  stored = work.stored;
  moves = map (λ s. s.mv) work.steps;
  restarts = map (λ s. s.restarts) work.steps;
}

-- how many steps are ready
abbrev pub count : Work → ℕ
count work = length work.steps

-- the bytes of the step behind the first k
pub record IsReadyStep (k : ℕ) (s : ReadyStep) : Type 0 where
  pub file : s.file ≡ step_name (suc k)
  pub bytes : s.bytes.items ≡ step_text s.mv
  pub reads : patch (step_text s.mv) ≡ Ok (op s.mv ∷ [])
  pub line : s.line ≡ ack (suc k)

-- each step is ready, and leads from the configuration before its move to the one after it
abbrev pub AreReady : Config → List Move → List ReadyStep → Type 0
AreReady start moves steps =
    (k : ℕ) (s : ReadyStep) → slice_get steps k ≡ Some s
    → IsReadyStep k s × IsStep (step_text s.mv) (conf start moves k) (conf start moves (suc k))

-- the steps of a plan with its services are ready
pub record AreReadySteps (start : Config) (moves : List Move) (services : List (List ℕ))
    (settings : Settings) (steps : List ReadyStep) : Type 0 where
  pub moves_are : map (λ s. s.mv) steps ≡ moves
  pub restarts_are : map (λ s. s.restarts) steps ≡ map (restarts_of settings) services
  pub ready : AreReady start moves steps

-- all bytes are those of the change
pub record IsReady (work : Work) : Type 0 where
  pub steps_ready : AreReady work.stored.config (change_in work).moves work.steps
  pub few : count work ≤ last_step
  pub names : AllPass is_step_name work.stored.steps
  pub stored_text : config_in work.stored_text.items ≡ Ok work.stored.config
  pub goal_config : work.goal.config ≡ goal (change_in work)
  pub goal_steps : work.goal.steps ≡ first_steps (count work)
  pub goal_unfolded : work.goal.folded ≡ false
  pub goal_text : work.goal_text.items ≡ file_text (goal (change_in work))
  pub goal_holds : config_in work.goal_text.items ≡ Ok work.goal.config
