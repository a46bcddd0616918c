-- How what is found for a demonstration and what the search gives make what it says.
use Rattle.std.proofs.Common.{inl, inr, ℕ, List, refl, Option, Some, None, Result, Ok, Err, IfSome}
use Rattle.host_core.specs.Counts.{Counts}
use Rattle.host_core.specs.State.{State}
use Rattle.move_core.specs.declared.moves.Move.{Move}
use Rattle.gcu_output.specs.declared.outcomes.Outcome.{Outcome}
use Rattle.gcu_output.specs.declared.outcomes.Outcome.TheVariants.{Memory, Unorderable, Budget}
use Rattle.gcu_inputs.specs.Asking.{Asking}
use Rattle.gcu_inputs.specs.Preparing.{Finds, Found, Refuses}
use Rattle.gcu_requests.specs.DemoAsked.{demo_asked, demo_planning_asked}
use Rattle.gcu_requests.specs.ReadPlannings.{planning_of}
use Rattle.gcu_requests.specs.Request as request
use Rattle.gcu_requests.specs.Request.{Request}
use Rattle.gcu_requests.specs.declared.planning.Planning as code
use Rattle.command_answers.specs.PlanCommands.{IsSolved, SaysSteps}
use Rattle.gcu_inputs.proofs.Finding.{first_refused}
use Rattle.command_answers.proofs.Answering.{refused_says}

abbrev counting : ℕ → code.Planning → Request
counting ports p = request.demo (planning_of p) ports

-- what a search answers is said of the request
steps_said : (asking : Asking Request) (s : State) (ports : ℕ) (p : code.Planning) (r : Result (List Move) Outcome)
    → asking.Gives (Ok (counting ports p))
    → IsSolved p r → SaysSteps ports asking s r
steps_said asking s ports p (Ok ms) given h = (counting ports p, given, refl, (ms, h, refl))
steps_said asking s ports p (Err Memory) given h = (inl refl, refl)
steps_said asking s ports p (Err Unorderable) given h = ((counting ports p, given, h), inl refl, refl)
steps_said asking s ports p (Err (Budget n)) given h = ((counting ports p, given, h), inl refl, refl)
steps_said asking s ports p (Err other) given never = absurd never

pub steps_say : (o : Option State) (seed ports : ℕ) (p : code.Planning) (r : Result (List Move) Outcome)
    → Finds o planning_of (Ok p) (demo_planning_asked seed ports)
    → IsSolved p r → IfSome o (λ s. SaysSteps ports (demo_asked seed ports s) s r)
steps_say None seed ports p r h solved = tt
steps_say (Some s) seed ports p r h solved =
    steps_said (demo_asked seed ports s) s ports p r (inr (planning_of p, h.gives, refl)) solved

-- what is refused is said of the question
pub steps_refused : (o : Option State) (seed ports : ℕ) (e : Outcome) (old new : Counts) → Refuses old new e
    → Finds {X = code.Planning} o planning_of (Err e) (demo_planning_asked seed ports)
    → IfSome o (λ s. SaysSteps ports (demo_asked seed ports s) s (Err e))
steps_refused None seed ports e old new h f = tt
steps_refused (Some s) seed ports e old new h f =
    let refused : Found (counting ports) (Err e) (demo_asked seed ports s) = first_refused planning_of (counting ports)
    e (demo_planning_asked seed ports s) _ f in
    refused_says (demo_asked seed ports s) s e old new h refused.stands refused.gives
