-- What is read for a plan.
use Rattle.std.specs.Prelude.{◌≡◌, ◌<◌, ℕ, false, true, ⊤, [], Option, Ok, Vec, option_map}
use Rattle.std.specs.List.{AllPass}
use Rattle.std.specs.declared.alloc.Global.{Global}
use Rattle.host_core.specs.State.{State}
use Rattle.conf_doc.specs.WellFormed.{IsConfig}
use Rattle.conf_store.specs.Files.{is_step_name}
use Rattle.conf_store.specs.declared.loaded.Stored.{Stored}
use Rattle.checkpoints.specs.Names.{is_good_name}
use Rattle.move_core.specs.Contexts.{AgreeElsewhere, IsNamed, IsValidIn}
use Rattle.gcu_words.specs.Targets.{Target, resumed, rolled_back}
use Rattle.gcu_words.specs.Tasks.{Task, reach, run_script}
use Rattle.gcu_inputs.specs.IntentAsked.{intent_asked}
use Rattle.gcu_inputs.specs.Preparing.{Finds}
use Rattle.gcu_requests.specs.Request as request
use Rattle.gcu_requests.specs.declared.planning.Planning.{Planning}

-- where the target is a checkpoint, its name is good
abbrev pub HasGoodName : Target → Type 0
HasGoodName (rolled_back name) = is_good_name name ≡ true
HasGoodName other = ⊤

-- the same of a task
abbrev pub IsWellNamed : Task → Type 0
IsWellNamed (reach from) = HasGoodName from
IsWellNamed (run_script path) = ⊤

-- where a change is resumed, this was found of its file
abbrev pub IsHeld : Target → Option State → Option (Vec ℕ Global) → Type 0
IsHeld resumed told found =
    Finds told (option_map (λ (v : Vec ℕ Global). v.items)) (Ok found) intent_asked
IsHeld other told found = ⊤

-- what was read for a plan, as a request has it
abbrev pub planning_of : Planning → request.Planning
planning_of p =
    record { ctx = p.ctx; start = p.stored.config; goal = p.goal; budget = p.budget }

-- what a search asks of it
pub record IsReadyToSearch (p : Planning) : Type 0 where
  pub named : IsNamed p.ctx
  pub formed : IsConfig p.stored.config
  pub names : AllPass is_step_name p.stored.steps
  pub start : IsValidIn p.ctx p.stored.config
  pub goal : IsValidIn p.ctx p.goal
  pub elsewhere : AgreeElsewhere p.ctx p.stored.config p.goal
  pub budget : 0 < p.budget

-- it was made and not loaded, so that there is nothing to fold
abbrev pub HasNothingToFold : Stored → Type 0
HasNothingToFold stored = (stored.steps ≡ []) × (stored.folded ≡ false)
