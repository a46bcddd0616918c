-- How what is found for a plan and what the search gives make what a command that plans says.
use Rattle.std.proofs.Common.{◌≡◌, inl, inr, ℕ, List, refl, ap, Option, Some, None, Result, Ok, Err, IfErr, IfSome}
use Rattle.host_core.specs.Answers.{FailsAs, Gives, map_ok}
use Rattle.host_core.specs.Counts.{Counts}
use Rattle.host_core.specs.State.{State}
use Rattle.move_core.specs.Operations.{plan_text}
use Rattle.move_core.specs.declared.moves.Move.{Move}
use Rattle.gcu_words.specs.Targets.{Target}
use Rattle.gcu_output.specs.declared.outcomes.Outcome.{Outcome}
use Rattle.gcu_output.specs.declared.outcomes.Outcome.TheVariants.{Done, Memory, Usage, InputFault, DiskFault, PrintFault, ServiceFault, Unorderable, Budget}
use Rattle.gcu_inputs.specs.Asking.{Asking, follows}
use Rattle.gcu_inputs.specs.Preparing.{Finds, Refuses, RefusesAlways, refusal}
use Rattle.gcu_words.specs.Tasks.{reach}
use Rattle.gcu_requests.specs.PlanAsked.{planning_asked, target_answer}
use Rattle.gcu_requests.specs.ReadPlannings.{planning_of}
use Rattle.gcu_requests.specs.Request as request
use Rattle.gcu_requests.specs.Request.{Request, Work, planned}
use Rattle.gcu_requests.specs.WorkAsked.{dry_run_asked, plan_asked, task_answer, work_asked}
use Rattle.gcu_requests.specs.declared.planning.Planning as code
use Rattle.command_answers.specs.Answers.{HasCause}
use Rattle.command_answers.specs.PlanCommands.{IsSolved, RefusesOrEnds, SaysPlan}
use Rattle.gcu_inputs.proofs.Finding.{first_refused, found_always, then_found}
use Rattle.command_answers.proofs.Answering.{refused_says}

-- the work that it is, and the request for it
abbrev work_of : code.Planning → Work
work_of p = planned (planning_of p)

abbrev request_of : code.Planning → Request
request_of p = request.plan (work_of p)

-- what a plan needs makes the request
planned_found : (o : Option State) (from : Target) (budget : ℕ) (r : Result code.Planning Outcome)
    → Finds o planning_of r (planning_asked from budget)
    → Finds o request_of r (plan_asked (reach from) budget)
planned_found None from budget r h = tt
planned_found (Some s) from budget (Ok p) h =
    record {
      gives = inr (work_of p, inr (planning_of p, h.gives, refl), refl);
      stands = tt;
    }
planned_found (Some s) from budget (Err e) h =
    first_refused work_of request_of e (work_asked (reach from) budget s) _
    (first_refused planning_of work_of e (planning_asked from budget s) _ h)

-- a target that is refused is a task that is
task_refused : (from : Target) (e : Outcome) → Gives {X = Unit {0}} (λ u. from) refusal (Err e) (target_answer from)
    → Gives {X = Unit {0}} (λ u. reach from) refusal (Err e) (task_answer (reach from))
task_refused from e h = by (target_answer from) (refusal e) h
  where
    by : (r : Result Target Outcome) (o : Option Outcome) → FailsAs o r → FailsAs o (map_ok reach r)
    by r None h = tt
    by r (Some x) h = ap (map_ok reach) h

task_passes : (from : Target) → target_answer from ≡ Ok from → task_answer (reach from) ≡ Ok (reach from)
task_passes from h = ap (map_ok reach) h

-- the target is by a name that no checkpoint has
pub no_named : (o : Option State) (from : Target) (budget : ℕ) (e : Outcome)
    → Gives {X = Unit {0}} (λ u. from) refusal (Err e) (target_answer from)
    → RefusesAlways e → Finds {X = code.Planning} o request_of (Err e) (dry_run_asked (reach from) budget)
no_named None from budget e gives always = tt
no_named (Some s) from budget e gives always =
    first_refused {X = Unit {0}} (λ u. reach from) request_of e (follows (task_answer (reach from))) _
    (found_always {X = Unit {0}} (λ u. reach from) (Err e) (task_answer (reach from)) _ (λ q same. same)
    (task_refused from e gives) always)

-- it isn't
pub named_found : (o : Option State) (from : Target) (budget : ℕ) (u : Unit {0}) (r : Result code.Planning Outcome)
    → Gives (λ v. from) refusal (Ok u) (target_answer from)
    → Finds o planning_of r (planning_asked from budget) → Finds o request_of r (dry_run_asked (reach from) budget)
named_found None from budget u r gives h = tt
named_found (Some s) from budget u r gives h =
    then_found (λ v. reach from) request_of u r (follows (task_answer (reach from))) _
    (found_always (λ v. reach from) (Ok u) (task_answer (reach from)) _ (λ q same. same) (task_passes from gives) tt)
    (planned_found (Some s) from budget r h)

-- what a search answers is said of the request
solved_says : (asking : Asking Request) (s : State) (p : code.Planning) (r : Result (List Move) Outcome)
    → asking.Gives (Ok (request_of p))
    → IsSolved p r → SaysPlan asking s r
solved_says asking s p (Ok ms) given h = (request_of p, given, refl, (ms, plan_text ms, (h, refl), refl))
solved_says asking s p (Err Memory) given h = (inl refl, refl)
solved_says asking s p (Err Unorderable) given h = ((request_of p, given, h), inl refl, refl)
solved_says asking s p (Err (Budget n)) given h = ((request_of p, given, h), inl refl, refl)
solved_says asking s p (Err other) given never = absurd never

pub plan_says : (o : Option State) (asking : State → Asking Request) (p : code.Planning)
    (r : Result (List Move) Outcome) → Finds o request_of (Ok p) asking
    → IsSolved p r → IfSome o (λ s. SaysPlan (asking s) s r)
plan_says None asking p r h solved = tt
plan_says (Some s) asking p r h solved = solved_says (asking s) s p r h.gives solved

-- what is refused is said of the question
pub plan_refused : (o : Option State) (asking : State → Asking Request) (e : Outcome) (old new : Counts)
    → Refuses old new e
    → Finds {X = code.Planning} o request_of (Err e) asking → IfSome o (λ s. SaysPlan (asking s) s (Err e))
plan_refused None asking e old new h f = tt
plan_refused (Some s) asking e old new h f = refused_says (asking s) s e old new h f.stands f.gives

-- a refusal is one of the ends
pub refuses_ends : (old new : Counts) (e : Outcome) → Refuses old new e → RefusesOrEnds old new e
refuses_ends old new Unorderable never = absurd never
refuses_ends old new (Budget n) never = absurd never
refuses_ends old new other h = h

-- so is the end of a search
pub solved_ends : (p : code.Planning) (r : Result (List Move) Outcome) (old new : Counts) → IsSolved p r
    → IfErr r (RefusesOrEnds old new)
solved_ends p (Ok ms) old new h = tt
solved_ends p (Err Memory) old new h = tt
solved_ends p (Err Unorderable) old new h = tt
solved_ends p (Err (Budget n)) old new h = tt
solved_ends p (Err other) old new never = absurd never

-- it has its cause
pub end_cause : (old new : Counts) (e : Outcome) → RefusesOrEnds old new e → HasCause old new e
end_cause old new Done never = absurd never
end_cause old new Usage never = absurd never
end_cause old new (PrintFault step) never = absurd never
end_cause old new (ServiceFault step service) never = absurd never
end_cause old new InputFault h = h
end_cause old new (DiskFault step) h = h.1
end_cause old new other h = tt
