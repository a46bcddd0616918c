-- A change of several scopes from what is asked on: what it answers, and what a crash leaves of it.
use Rattle.std.proofs.Common.{◌≡◌, ⊎_elim, inl, inr, ℕ, List, [], ◌∷◌, map, refl, sym, ◌∙◌, subst, arith, append-nil, Option, Some, None, Ok, Err, IfSome}
use Rattle.host_core.specs.Counts.{Counts, NoneFell, NoneRose}
use Rattle.host_core.specs.Crashes.{Left, MayLeave, MayLeaveNow}
use Rattle.host_core.specs.State.{IsFront, State}
use Rattle.scope_changes.specs.Crashes.{LeavesSince}
use Rattle.scope_changes.specs.Works.{ScopeWork}
use Rattle.gcu_output.specs.Lines.{last_line}
use Rattle.gcu_output.specs.declared.outcomes.Outcome.{Outcome}
use Rattle.gcu_output.specs.declared.outcomes.Outcome.TheVariants.{Done, DiskFault, PrintFault, ServiceFault}
use Rattle.gcu_inputs.specs.Asking.{of_each}
use Rattle.gcu_inputs.specs.Preparing.{Finds, Found, Refuses}
use Rattle.gcu_requests.specs.Request.{plan_scopes}
use Rattle.gcu_requests.specs.ScopesAsked.{ScopePlanning, scopes_asked}
use Rattle.gcu_requests.specs.ScopesPlannings.{IsStill, plans_of}
use Rattle.gcu_requests.specs.declared.scopes_planning.ScopesPlanning.{ScopesPlanning}
use Rattle.gcu_inputs.proofs.Finding.{first_refused}
use Rattle.command_answers.specs.Answers.{Complete, HasCause, IsRefusal, Says}
use Rattle.command_answers.specs.Commands.{AnswersTo, CompleteTo, LeftTo}
use Rattle.scope_commands.specs.ScopeCrashes.{LeftDoingScopes, LeftOfScopes}
use Rattle.scope_commands.specs.ScopeEndings.{AnswersScopes, EndsScopes}
use Rattle.command_answers.specs.ScopeTexts.{plan_scopes_asked, scopes_solved, solved_asked}
use Rattle.scope_commands.specs.ScopeWorks.{AreWorks, AreWorksFor, plan_of, refused_asked}
use Rattle.scope_commands.specs.SeveralScopes.{IsLeftFrom}
use Rattle.scope_commands.specs.SolvedScopes.{scope_plan}
use Rattle.scope_commands.specs.declared.plan_scopes.ScopePlan as code
use Rattle.command_answers.proofs.Answering.{refused_says}
use Rattle.command_answers.proofs.Elapsing.{no_front, with_none}
use Rattle.scope_commands.proofs.ScopesEnding.{scopes_since}
use Rattle.scope_commands.proofs.ScopesSolving.{none_solved}

-- ---- what is refused

-- of the plans
pub unsolved_says : (o : Option State) (path : List ℕ) (budget : ℕ) (e : Outcome) (old new : Counts) → Refuses old new e
    → Finds {X = List code.ScopePlan} o (map scope_plan) (Err e) (scopes_solved path budget)
    → IfSome o (λ s. Says (refused_asked path budget s) s s e (last_line e))
unsolved_says None path budget e old new refuses h = tt
unsolved_says (Some s) path budget e old new refuses h =
    let asked : Found {X = List code.ScopePlan} (λ plans. plan_scopes (map scope_plan plans)) (Err e)
    (refused_asked path budget s) =
    first_refused (map scope_plan) (λ plans. plan_scopes (map scope_plan plans)) e (scopes_solved path budget s) _ h in
    refused_says (refused_asked path budget s) s e old new refuses asked.stands asked.gives

-- of what the plans need
pub unread_says : (o : Option State) (path : List ℕ) (budget : ℕ) (e : Outcome) (old new : Counts) → Refuses old new e
    → Finds {X = ScopesPlanning} o plans_of (Err e) (scopes_asked path budget)
    → IfSome o (λ s. Says (refused_asked path budget s) s s e (last_line e))
unread_says o path budget e old new refuses h =
    unsolved_says o path budget e old new refuses (none_solved o path budget e h)

-- what is answered and left then is some of the whole
pub refused_answers : (path : List ℕ) (budget : ℕ) (o after : Option State) (old new : Counts) (result : Outcome)
    → AnswersTo (refused_asked path budget) o after old new result
    → AnswersScopes path budget o after old new result
refused_answers path budget None after old new result h = h
refused_answers path budget (Some s) after old new result h = inl h

pub refused_left : (path : List ℕ) (budget : ℕ) (o : Option State) (left : Left)
    → LeftTo (refused_asked path budget) o left → LeftOfScopes path budget o left
refused_left path budget None left h = tt
refused_left path budget (Some s) left h = inl h

pub refused_complete : (path : List ℕ) (budget : ℕ) (o : Option State) (old new : Counts) (result : Outcome)
    → CompleteTo (refused_asked path budget) o old new result
    → CompleteTo (plan_scopes_asked path budget) o old new result
refused_complete path budget None old new result h = tt
refused_complete path budget (Some s) old new result h = λ none. by (h none)
  where
    by : Complete (refused_asked path budget s) result → Complete (plan_scopes_asked path budget s) result
    by (inl memory) = inl memory
    by (inr (inl (inl given))) = inr (inl (inl given))
    by (inr (inl (inr (plans, given, never)))) = absurd never
    by (inr (inr (r, inl never, finished))) = absurd never
    by (inr (inr (r, inr (plans, given, never), finished))) = absurd never

-- ---- what is done

-- the plans are those that a dry run prints
each_solved : (s : State) (plannings : List ScopePlanning) (works : List ScopeWork) → AreWorksFor s plannings works
    → (of_each solved_asked plannings).Gives (Ok (map plan_of works))
each_solved s [] [] each = refl
each_solved s [] (w ∷ works) never = absurd never
each_solved s (p ∷ ps) [] never = absurd never
each_solved s (p ∷ ps) (w ∷ works) each =
    inr (
      plan_of w,
      inr (w.change.moves, each.0.change.work.0, (λ i. Ok (sym each.0.scope i, w.change.moves))),
      inr (map plan_of works, each_solved s ps works each.1, refl),
    )

pub works_given : (path : List ℕ) (budget : ℕ) (s : State) (works : List ScopeWork) → AreWorks path budget s works
    → (plan_scopes_asked path budget s).Gives (Ok (plan_scopes (map plan_of works)))
works_given path budget s works are =
    inr (map plan_of works, inr (are.plannings, are.asked, each_solved s are.plannings works are.each), refl)

untold : (works : List ScopeWork) (after : Option State) (old new : Counts) (result : Outcome)
    → EndsScopes works None after old new result → after ≡ None
untold works after old new result (inl h) = h.1.3
untold works after old new result (inr h) = h

pub done_answers : (path : List ℕ) (budget : ℕ) (o q after : Option State) (works : List ScopeWork)
    (old mid new : Counts) (result : Outcome) → q ≡ o
    → IfSome o (λ s. AreWorks path budget s works) → EndsScopes works q after mid new result → NoneFell old mid
    → AnswersScopes path budget o after old new result
done_answers path budget None q after works old mid new result same are ends fell =
    untold works after mid new result (subst (λ p. EndsScopes works p after mid new result) same ends)
done_answers path budget (Some s) q after works old mid new result same are ends fell =
    inr (
      works,
      are,
      scopes_since works (Some s) after old mid new result fell
          (subst (λ p. EndsScopes works p after mid new result) same ends),
    )

-- no count falls
pub fell_further : (old mid new : Counts) → NoneFell old mid → NoneFell mid new → NoneFell old new
fell_further old mid new first next = record {
  input = omega (arith, first.input, next.input);
  disk = omega (arith, first.disk, next.disk);
  print = omega (arith, first.print, next.print);
  service = omega (arith, first.service, next.service);
}

-- nothing failed, and nothing is refused
pub done_complete : (path : List ℕ) (budget : ℕ) (o : Option State) (works : List ScopeWork) (old new : Counts)
    (result : Outcome) → IfSome o (λ s. AreWorks path budget s works)
    → HasCause old new result → (IsRefusal result → ⊥) → CompleteTo (plan_scopes_asked path budget) o old new result
done_complete path budget None works old new result are cause goes = tt
done_complete path budget (Some s) works old new result are cause goes = λ none. by none result cause goes
  where
    by : NoneRose old new → (r : Outcome) → HasCause old new r → (IsRefusal r → ⊥)
        → Complete (plan_scopes_asked path budget s) r
    by none Done why on = inr (inr (plan_scopes (map plan_of works), works_given path budget s works are, refl))
    by none (DiskFault step) why on = absurd (none.disk why)
    by none (PrintFault step) why on = absurd (none.print why)
    by none (ServiceFault step service) why on = absurd (none.service why)
    by none other why on = absurd (on tt)

-- what a crash leaves
pub done_left : {H : Type 0} (told : H → Option State) (moment : H → ℕ) (left_since : H → ℕ → Left → Type 0)
    (path : List ℕ) (budget : ℕ) (old mid new : H) (works : List ScopeWork)
    → IsStill told moment left_since old mid
    → IfSome (told old) (λ s. AreWorks path budget s works)
    → IfSome (told mid) (λ s. LeavesSince moment left_since mid new s (LeftDoingScopes works s))
    → (left : Left) → IsLeftFrom told moment left_since old new left → LeftOfScopes path budget (told old) left
done_left {H} told moment left_since path budget old mid new works still are does left (t, (early, now), since) =
    by (told old) refl
  where
    here : (s : State) → told old ≡ Some s → (l : Left) → left_since mid t l → MayLeave s l
    here s is l b = subst (λ p. MayLeaveNow p l) is (still.stays t early now l b)

    front : (s : State) → told old ≡ Some s → (l : Left) → left_since mid t l → IsFront l.output s.output
    front s is l b = ([], sym (here s is l b).output ∙ sym (append-nil l.output))

    by : (o : Option State) → told old ≡ o → LeftOfScopes path budget o left
    by None is = tt
    by (Some s) is =
        let run : LeavesSince moment left_since mid new s (LeftDoingScopes works s) =
        subst (λ p. IfSome p (λ v. LeavesSince moment left_since mid new v (LeftDoingScopes works v)))
        (still.tells ∙ is) does in
        let given : AreWorks path budget s works = subst (λ p. IfSome p (λ v. AreWorks path budget v works)) is are in
        ⊎_elim (λ b. inl ([], no_front (refused_asked path budget s) s, inl (with_none s left (here s is left b))))
        (λ h. inr (works, given, h))
        (run.before t (omega (arith, early, still.later)) (front s is) left since)
