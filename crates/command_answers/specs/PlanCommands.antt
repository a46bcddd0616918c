-- What the parts of a command that plans give.
use Rattle.std.specs.Prelude.{ℕ, List, ◌++◌, length, Result, Ok, Err, ⊤}
use Rattle.host_core.specs.Counts.{Counts}
use Rattle.host_core.specs.State.{State}
use Rattle.conf_doc.specs.declared.configuration.Config.{Config}
use Rattle.conf_store.specs.declared.loaded.Stored.{Stored}
use Rattle.move_core.specs.Operations.{plan_text}
use Rattle.move_core.specs.declared.contexts.Ctx.{Ctx}
use Rattle.move_core.specs.declared.moves.Move.{Move}
use Rattle.gcu_output.specs.Lines.{last_line}
use Rattle.gcu_output.specs.declared.outcomes.Outcome.{Outcome}
use Rattle.gcu_output.specs.declared.outcomes.Outcome.TheVariants.{Done, Memory, Unorderable, Budget}
use Rattle.gcu_inputs.specs.Asking.{Asking}
use Rattle.gcu_inputs.specs.Preparing.{Refuses}
use Rattle.gcu_requests.specs.Request.{Request}
use Rattle.gcu_requests.specs.declared.planning.Planning.{Planning}
use Rattle.gcu_requests.specs.ReadPlannings.{planning_of}
use Rattle.command_answers.specs.Answers.{Says}
use Rattle.command_answers.specs.Plannings.{HasNone, IsPlanFor}
use Rattle.command_answers.specs.Summary.{summary}

-- what a plan is searched for
abbrev pub planning_between : Ctx → Stored → Config → ℕ → Planning
planning_between ctx stored goal budget =
    record { ctx = ctx; stored = stored; goal = goal; budget = budget }

-- a plan, or why there is none
abbrev pub IsSolved : Planning → Result (List Move) Outcome → Type 0
IsSolved p (Ok ms) = IsPlanFor (planning_of p) ms
IsSolved p (Err Memory) = ⊤
IsSolved p (Err e) = HasNone (planning_of p) e

-- the output with a plan, or with what is refused
abbrev pub SaysPlan : Asking Request → State → Result (List Move) Outcome → Type 0
SaysPlan asking s (Ok ms) = Says asking s s Done (plan_text ms ++ last_line Done)
SaysPlan asking s (Err e) = Says asking s s e (last_line e)

-- the same with how many moves the plan has, with so many ports
abbrev pub SaysSteps : ℕ → Asking Request → State → Result (List Move) Outcome → Type 0
SaysSteps ports asking s (Ok ms) =
    Says asking s s Done (summary ports (length ms) ++ last_line Done)
SaysSteps ports asking s (Err e) = Says asking s s e (last_line e)

-- for want of memory, a fault with its cause, a refusal of what was given, or a search without a plan
abbrev pub RefusesOrEnds : Counts → Counts → Outcome → Type 0
RefusesOrEnds old new Unorderable = ⊤
RefusesOrEnds old new (Budget n) = ⊤
RefusesOrEnds old new other = Refuses old new other
