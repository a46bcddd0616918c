-- `check-plan PATCH PLAN`: what the check of a plan asks. All that a plan for the patch needs is read before the
-- plan, and nothing is searched for.
use Rattle.std.specs.Prelude.{◌≡◌, ℕ, List, length, Result, Ok, Err}
use Rattle.host_core.specs.State.{State}
use Rattle.conf_doc.specs.declared.configuration.Config.{Config}
use Rattle.move_core.specs.Contexts.{rulebook}
use Rattle.move_core.specs.Plans.{IsPlan}
use Rattle.move_core.specs.declared.contexts.Ctx.{Ctx}
use Rattle.move_core.specs.declared.moves.Move.{Move}
use Rattle.gcu_words.specs.Targets.{patched}
use Rattle.plan_texts.specs.PlanTexts.{IsPlanText, most_bytes}
use Rattle.plan_texts.specs.PlanTexts as texts
use Rattle.plan_check.specs.Checks.{IsFirstFault}
use Rattle.plan_texts.specs.declared.causes.NoWhy.{NoWhy}
use Rattle.gcu_output.specs.declared.outcomes.Outcome.{Outcome}
use Rattle.gcu_output.specs.declared.outcomes.Outcome.TheVariants.{BadPlan, PlanRejected}
use Rattle.gcu_inputs.specs.Asking.{Asking, follows_by, ◌>>>◌}
use Rattle.gcu_inputs.specs.IntentAsked.{uninterrupted}
use Rattle.gcu_inputs.specs.ModelFiles.{bytes_asked}
use Rattle.gcu_inputs.specs.RulesAsked.{ctx_asked}
use Rattle.gcu_requests.specs.PlanAsked.{goal_asked, start_asked}
use Rattle.gcu_requests.specs.Request.{Request, accept_plan}

-- ---- the plan

-- the moves whose text the bytes are, or the first line at fault
abbrev pub IsPlanIn : List ℕ → List ℕ → Result (List Move) Outcome → Type 0
IsPlanIn path bytes (Ok ms) = IsPlanText bytes ms
IsPlanIn path bytes (Err e) =
    (line : ℕ) × texts.IsFirstFault bytes line × (e ≡ BadPlan path line)

-- the moves that the input at a path holds
abbrev pub moves_asked : List ℕ → State → Asking (List Move)
moves_asked path s =
    bytes_asked path most_bytes s >>> λ bytes.
    follows_by (IsPlanIn path bytes)

-- ---- the check

-- the moves are a plan, of so many steps, or the first step at fault and why
abbrev pub IsAccepted : Ctx → (start goal : Config) → List Move → Result Request Outcome → Type 0
IsAccepted ctx start goal ms (Ok request) =
    IsPlan (rulebook ctx) start goal ms × (request ≡ accept_plan (length ms))
IsAccepted ctx start goal ms (Err e) =
    (step : ℕ) × (why : NoWhy) × IsFirstFault (rulebook ctx) start goal ms step why
    × (e ≡ PlanRejected step why)

-- whether the input at a path holds a plan for the patch at another
abbrev pub checking_asked : (patch plan : List ℕ) → State → Asking Request
checking_asked patch plan s =
    ctx_asked s >>> λ ctx.
    start_asked ctx s >>> λ start.
    goal_asked (patched patch) ctx start s >>> λ goal.
    moves_asked plan s >>> λ ms.
    follows_by (IsAccepted ctx start goal ms)

-- the same, where no change is under way
abbrev pub check_plan_asked : (patch plan : List ℕ) → State → Asking Request
check_plan_asked patch plan s = uninterrupted s >>> λ _. checking_asked patch plan s
