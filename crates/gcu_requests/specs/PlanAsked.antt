-- What a command that plans asks: by what moves are judged, a valid start, and a goal that a plan may have.
use Rattle.std.specs.Prelude.{◌≡◌, ℕ, List, Result, Ok, Err}
use Rattle.host_core.specs.Answers.{map_ok}
use Rattle.host_core.specs.State.{State}
use Rattle.conf_doc.specs.declared.configuration.Config.{Config}
use Rattle.conf_check.specs.declared.violations.RuleName.{RuleName}
use Rattle.move_core.specs.Contexts.{AgreeElsewhere, IsValidIn}
use Rattle.move_core.specs.declared.contexts.Ctx.{Ctx}
use Rattle.gcu_requests.specs.GoalTables.{HasNoEmptyTable, IsFirstDifference, IsFirstEmpty}
use Rattle.gcu_words.specs.Targets.{Target, patched, replaced, resumed, rolled_back}
use Rattle.gcu_output.specs.declared.outcomes.Outcome.{Outcome}
use Rattle.gcu_output.specs.declared.outcomes.Outcome.TheVariants.{CurrentInvalid, TargetInvalid, NoModel, EmptyTable}
use Rattle.gcu_inputs.specs.Asking.{Asking, follows, follows_by, ◌>>>◌}
use Rattle.gcu_inputs.specs.IntentAsked.{gate_asked, intended_asked}
use Rattle.gcu_inputs.specs.PatchAsked.{patch_asked, target}
use Rattle.gcu_inputs.specs.RulesAsked.{ctx_asked}
use Rattle.gcu_inputs.specs.StoredAsked.{stored_asked}
use Rattle.gcu_requests.specs.Checking.{IsInvalidAs}
use Rattle.gcu_requests.specs.FileAsked.{file_asked}
use Rattle.gcu_requests.specs.PointAsked.{held_asked, name_answer}
use Rattle.gcu_requests.specs.Request.{Planning}

-- the configuration where it is valid, or its first violation, told by an answer
abbrev pub IsValidOr : (List ℕ → RuleName → Outcome) → Ctx → Config → Result Config Outcome → Type 0
IsValidOr answer ctx config (Ok c) = IsValidIn ctx config × (c ≡ config)
IsValidOr answer ctx config (Err e) = IsInvalidAs answer ctx.models config e

-- ---- the start

-- the stored configuration, where it is valid
abbrev pub start_asked : Ctx → State → Asking Config
start_asked ctx s =
    stored_asked s >>> λ stored. follows_by (IsValidOr CurrentInvalid ctx stored)

-- ---- the goal

-- what the target makes of the start
abbrev pub made_asked : Target → Config → State → Asking Config
made_asked (patched path) start s = patch_asked path s >>> λ ops. follows (target ops start)
made_asked (replaced path) start s = file_asked path s
made_asked (rolled_back name) start s = held_asked name s
made_asked resumed start s = intended_asked s

-- the same as the start on all tables without a model, or the first one that differs is refused
abbrev pub IsElsewhereAs : Ctx → Config → Config → Result (Unit {0}) Outcome → Type 0
IsElsewhereAs ctx start goal (Ok u) = AgreeElsewhere ctx start goal
IsElsewhereAs ctx start goal (Err e) =
    (t : List ℕ) × IsFirstDifference ctx start goal t × (e ≡ NoModel t)

-- no table with a model is without keys, or the first such one is refused
abbrev pub HasKeys : Ctx → Config → Result (Unit {0}) Outcome → Type 0
HasKeys ctx goal (Ok u) = HasNoEmptyTable ctx goal
HasKeys ctx goal (Err e) = (t : List ℕ) × IsFirstEmpty ctx goal t × (e ≡ EmptyTable t)

-- the configuration, where a plan may have it for its goal
abbrev pub judged_asked : Ctx → Config → Config → Asking Config
judged_asked ctx start goal =
    follows_by (IsElsewhereAs ctx start goal) >>> λ _.
    follows_by (HasKeys ctx goal) >>> λ _.
    follows_by (IsValidOr TargetInvalid ctx goal)

-- a goal that a plan may have
abbrev pub goal_asked : Target → Ctx → Config → State → Asking Config
goal_asked from ctx start s =
    made_asked from start s >>> λ goal.
    judged_asked ctx start goal

-- ---- the plan

-- what a plan for the target needs, with that budget
abbrev pub needs_asked : Target → ℕ → State → Asking Planning
needs_asked from budget s =
    ctx_asked s >>> λ ctx.
    start_asked ctx s >>> λ start.
    goal_asked from ctx start s >>> λ goal.
    follows (Ok (record { ctx = ctx; start = start; goal = goal; budget = budget }))

-- the same, where a change is under way or not as the target wants
abbrev pub planning_asked : Target → ℕ → State → Asking Planning
planning_asked from budget s = gate_asked from s >>> λ _. needs_asked from budget s

-- a target by a name that no checkpoint has is refused
abbrev pub target_answer : Target → Result Target Outcome
target_answer (patched path) = Ok (patched path)
target_answer (replaced path) = Ok (replaced path)
target_answer (rolled_back name) = map_ok rolled_back (name_answer name)
target_answer resumed = Ok resumed
