-- A change that was stopped and is resumed.
use Rattle.std.specs.Prelude.{◌≡◌, ℕ, List, Some, Ok, ⊤}
use Rattle.host_core.specs.State.{State}
use Rattle.conf_doc.specs.declared.configuration.Config.{Config}
use Rattle.conf_store.specs.Files.{intent_file}
use Rattle.conf_store.specs.Stored.{stored}
use Rattle.move_core.specs.Contexts.{AgreeElsewhere, IsValidIn, rulebook}
use Rattle.move_core.specs.Plans.{IsPlan, conf}
use Rattle.move_core.specs.declared.contexts.Ctx.{Ctx}
use Rattle.move_core.specs.declared.moves.Move.{Move}
use Rattle.gcu_requests.specs.GoalTables.{HasNoEmptyTable}
use Rattle.gcu_words.specs.Targets.{resumed}
use Rattle.gcu_output.specs.declared.outcomes.Outcome.{Outcome}
use Rattle.gcu_output.specs.declared.outcomes.Outcome.TheVariants.{Done, Memory, Budget}
use Rattle.gcu_words.specs.Form.{change, form}
use Rattle.gcu_inputs.specs.RulesAsked.{ctx_asked}
use Rattle.gcu_words.specs.Tasks.{reach}
use Rattle.gcu_engine.specs.Folder.{HoldsConfig}

-- the folder stands for a configuration of a plan, `intent` holds its goal, and the inputs are as when it was
-- planned: its start and its goal were not refused
pub record IsStoppedIn (s : State) : Type 0 where
  pub ctx : Ctx
  pub read : (ctx_asked s).Gives (Ok ctx)
  pub start : Config
  pub goal : Config
  pub moves : List Move
  pub plan : IsPlan (rulebook ctx) start goal moves
  pub k : ℕ
  pub stands : stored s.files ≡ Ok (conf start moves k)
  pub intent : HoldsConfig s.files intent_file goal
  pub valid : IsValidIn ctx start
  pub elsewhere : AgreeElsewhere ctx start goal
  pub keys : HasNoEmptyTable ctx goal
  pub valid_goal : IsValidIn ctx goal

-- it is done, or memory or the budget is wanting
abbrev pub IsResumed : Outcome → Type 0
IsResumed Done = ⊤
IsResumed Memory = ⊤
IsResumed (Budget n) = ⊤
IsResumed other = ⊥

-- so it is of the command that goes on with it
abbrev pub Resumes : List (List ℕ) → Outcome → Type 0
Resumes words result =
    (budget : ℕ) → form words ≡ Some (change (reach resumed) budget) → IsResumed result
