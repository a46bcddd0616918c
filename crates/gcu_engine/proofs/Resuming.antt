-- A change that was stopped is resumed: nothing refuses it, and there is a plan.
use Rattle.std.proofs.Common.{◌≡◌, inl, inr, ℕ, List, refl, sym, ap, subst, Option, Some, None, Result, Ok, Err, IfSome}
use Rattle.std.specs.FinMap.{get}
use Rattle.host_core.specs.Counts.{Counts, NoneRose}
use Rattle.host_core.specs.State.{State}
use Rattle.conf_store.specs.Files.{intent_file}
use Rattle.conf_store.specs.Stored.{config_in}
use Rattle.move_core.specs.Plans.{conf}
use Rattle.gcu_words.specs.Targets.{resumed}
use Rattle.gcu_output.specs.declared.outcomes.Outcome.{Outcome}
use Rattle.gcu_output.specs.declared.outcomes.Outcome.TheVariants.{Unorderable, Budget}
use Rattle.gcu_words.specs.Form.{Form, form}
use Rattle.gcu_inputs.specs.IntentAsked.{held_answer, interrupted}
use Rattle.gcu_inputs.specs.StoredAsked.{stored_answer}
use Rattle.gcu_words.specs.Tasks.{reach}
use Rattle.gcu_requests.specs.Asked.{asked, form_asked}
use Rattle.gcu_requests.specs.OneAnswer.{AskedIsOne, HasOneAnswer}
use Rattle.gcu_requests.specs.PlanAsked.{goal_asked, planning_asked, start_asked}
use Rattle.gcu_requests.specs.Request as request
use Rattle.gcu_requests.specs.Request.{Planning, Request, planned}
use Rattle.gcu_requests.specs.WorkAsked.{change_asked}
use Rattle.command_answers.specs.Answers.{Complete, Finishes}
use Rattle.command_answers.specs.Plannings.{HasNone}
use Rattle.gcu_engine.specs.Resuming.{IsResumed, IsStoppedIn, Resumes}
use Rattle.gcu_engine.proofs.Folders.{config_of_held}
use Rattle.gcu_engine.proofs.RightPlans.{way_valid}
use Rattle.gcu_engine.proofs.OtherTables.{HaveModels, half_elsewhere, rest_reaches}

module _ (law : HaveModels) (budget : ℕ) (s : State) (h : IsStoppedIn s) where
  -- what is planned
  abbrev rest : Planning
  rest = record { ctx = h.ctx; start = conf h.start h.moves h.k; goal = h.goal; budget = budget }

  -- the bytes of `intent`
  abbrev held : (bytes : List ℕ) × (get s.files intent_file ≡ Some bytes) × (config_in bytes ≡ Ok h.goal)
  held = config_of_held s.files intent_file h.goal h.intent

  gate_given : (interrupted s).Gives (Ok tt)
  gate_given = inr (Some held.0, ap (λ (o : Option (List ℕ)). Ok o) held.1, refl)

  start_given : (start_asked h.ctx s).Gives (Ok rest.start)
  start_given = inr (
    rest.start,
    ap stored_answer h.stands,
    (way_valid h.ctx h.goal h.start h.moves h.goal h.valid h.plan h.k, refl),
  )

  goal_given : (goal_asked resumed h.ctx rest.start s).Gives (Ok h.goal)
  goal_given = inr (
    h.goal,
    inr (Some held.0, ap (λ (o : Option (List ℕ)). Ok o) held.1, ap held_answer held.2),
    inr (
      tt,
      half_elsewhere law h.ctx h.goal h.start h.moves h.goal h.plan h.elsewhere h.k,
      inr (tt, h.keys, (h.valid_goal, refl)),
    ),
  )

  planning_given : (planning_asked resumed budget s).Gives (Ok rest)
  planning_given = inr (
    tt,
    gate_given,
    inr (h.ctx, h.read, inr (rest.start, start_given, inr (h.goal, goal_given, refl))),
  )

  rest_given : (change_asked (reach resumed) budget s).Gives (Ok (request.change (planned rest)))
  rest_given = inr (reach resumed, refl, inr (tt, refl, inr (planned rest, inr (rest, planning_given, refl), refl)))

  -- a plan is there
  some_plan : (e : Outcome) → HasNone rest e → IsResumed e
  some_plan Unorderable none = absurd (none.0 (rest_reaches h.ctx h.goal h.start h.moves h.goal h.plan h.k))
  some_plan (Budget n) none = tt
  some_plan other never = absurd never

  finished : (r : Request) (e : Outcome) → r ≡ request.change (planned rest) → Finishes r e → IsResumed e
  finished r e same ends = by (subst (λ (q : Request). Finishes q e) same ends)
    where
      by : Finishes (request.change (planned rest)) e → IsResumed e
      by (inl done) = subst IsResumed (sym done) tt
      by (inr none) = some_plan e none

  same_request : (r : Request) → ◌≡◌ {A = Result Request Outcome} (Ok r) (Ok (request.change (planned rest)))
      → r ≡ request.change (planned rest)
  same_request r e = let same : r ≡ request.change (planned rest) = cc in same

  complete_resumed : HasOneAnswer (change_asked (reach resumed) budget s) → (e : Outcome)
      → Complete (change_asked (reach resumed) budget s) e → IsResumed e
  complete_resumed one e (inl memory) = subst IsResumed (sym memory) tt
  complete_resumed one e (inr (inl refused)) =
      let both = one.same (Err e) (Ok (request.change (planned rest))) refused rest_given in absurd cc
  complete_resumed one e (inr (inr (r, given, ends))) =
      finished r e (same_request r (one.same (Ok r) (Ok (request.change (planned rest))) given rest_given)) ends

-- of a host that may not tell its state
pub resumes : HaveModels → AskedIsOne → (words : List (List ℕ)) (o : Option State) (old new : Counts) (result : Outcome)
    → IfSome o (λ s. NoneRose old new → Complete (asked words s) result)
    → IfSome o (λ s. NoneRose old new → IsStoppedIn s → Resumes words result)
resumes law one words None old new result complete = tt
resumes law one words (Some s) old new result complete = λ none h budget is.
    complete_resumed law budget s h
    (subst (λ (f : Option Form). HasOneAnswer (form_asked f s)) is (one words s)) result
    (subst (λ (f : Option Form). Complete (form_asked f s) result) is (complete none))

-- words that are no command go on with nothing
pub never_resumes : (words : List (List ℕ)) (o : Option State) (old new : Counts) (result : Outcome) → None ≡ form words
    → IfSome o (λ s. NoneRose old new → IsStoppedIn s → Resumes words result)
never_resumes words None old new result is = tt
never_resumes words (Some s) old new result is = λ none h budget same. absurd cc
