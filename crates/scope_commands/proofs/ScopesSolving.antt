-- How the plans of scopes make what a change of several scopes says.
use Rattle.std.proofs.Common.{◌≡◌, ◌<◌, inl, inr, ⊎_elim, ℕ, zero, suc, ◌+◌, List, [], ◌∷◌, ◌++◌, get_or, length, map, take, refl, sym, ap, ◌∙◌, subst, append_assoc, append-nil, arith, Option, Some, None, Result, Ok, Err, IfSome}
use Rattle.std.proofs.lemmas.List.{map-append, take_more}
use Rattle.host_core.specs.Counts.{Counts, NoneFell, PrintMayRise}
use Rattle.host_core.specs.Crashes.{Elapses, Left}
use Rattle.host_core.specs.State.{State}
use Rattle.move_core.specs.Operations.{plan_text}
use Rattle.move_core.specs.declared.contexts.Ctx.{Ctx}
use Rattle.gcu_output.specs.Lines.{last_line}
use Rattle.gcu_output.specs.Printing.{LeftInText}
use Rattle.gcu_output.specs.declared.outcomes.Outcome.{Outcome}
use Rattle.gcu_output.specs.declared.outcomes.Outcome.TheVariants.{Done, Memory, Unorderable, Budget}
use Rattle.gcu_inputs.specs.Asking.{Asking, of_each}
use Rattle.gcu_inputs.specs.Preparing.{Finds, Found, Refuses, RefusesAlways}
use Rattle.gcu_requests.specs.Request.{Request, ScopePlan, plan_scopes}
use Rattle.gcu_requests.specs.ScopesAsked.{scopes_asked}
use Rattle.gcu_requests.specs.ScopesPlannings.{AreReady, IsReadyBetween, IsRefusalOf, IsStill, plan_in, plans_of, scope_planning}
use Rattle.gcu_requests.specs.declared.scopes_planning.ScopeEnds.{ScopeEnds}
use Rattle.gcu_requests.specs.declared.scopes_planning.ScopesPlanning.{ScopesPlanning}
use Rattle.gcu_inputs.proofs.Finding.{first_refused, then_found}
use Rattle.command_answers.specs.Answers.{Says}
use Rattle.command_answers.specs.Commands.{LeftTo}
use Rattle.command_answers.specs.PlanCommands.{IsSolved, planning_between}
use Rattle.command_answers.specs.Plannings.{IsPlanFor}
use Rattle.command_answers.specs.ScopeTexts.{plan_scopes_asked, scope_line, scopes_solved, scopes_text, solved_asked}
use Rattle.scope_commands.specs.SeveralScopes.{IsLeftFrom}
use Rattle.scope_commands.specs.SolvedScopes.{scope_plan}
use Rattle.scope_commands.specs.declared.plan_scopes.ScopePlan as code
use Rattle.command_answers.proofs.Answering.{refused_says}
use Rattle.command_answers.proofs.Causes.{print_fell}
use Rattle.command_answers.proofs.Elapsing.{left_here, said_left}

-- ---- one scope

-- a plan that is right is that of its scope
pub solved_found : (ctx : Ctx) (budget : ℕ) (from : ScopeEnds) (p : code.ScopePlan)
    → p.scope ≡ from.scope → IsPlanFor (plan_in ctx budget from.ends) p.plan
    → Found scope_plan (Ok p) (solved_asked (scope_planning ctx budget from))
solved_found ctx budget from p is right = record {
  gives = inr (p.plan, right, (λ i. Ok ((sym is i, p.plan))));
  stands = tt;
}

module _ (ctx : Ctx) (budget : ℕ) (from : ScopeEnds) where
  -- that there is none is told of the scope
  pub unsolved_found : (e r : Outcome) → IsSolved (planning_between ctx from.ends.stored from.ends.goal budget) (Err e)
      → IsRefusalOf from.scope e r
      → Found {X = code.ScopePlan} scope_plan (Err r) (solved_asked (scope_planning ctx budget from))
  unsolved_found e r solved told = by e solved told
    where
      told_as : Outcome → Type 0
      told_as f = Found {X = code.ScopePlan} scope_plan (Err f) (solved_asked (scope_planning ctx budget from))

      by : (q : Outcome) → IsSolved (planning_between ctx from.ends.stored from.ends.goal budget) (Err q)
          → IsRefusalOf from.scope q r → told_as r
      by Memory is said = subst told_as (sym said) (record { gives = tt; stands = tt })
      by Unorderable is (inl said) = subst told_as (sym said) (record { gives = tt; stands = tt })
      by Unorderable is (inr said) =
          subst told_as (sym said) (record { gives = inl (Unorderable, is, refl); stands = tt })
      by (Budget n) is (inl said) = subst told_as (sym said) (record { gives = tt; stands = tt })
      by (Budget n) is (inr said) = subst told_as (sym said) (record { gives = inl (Budget n, is, refl); stands = tt })
      by other never said = absurd never

  -- and with no fault among its causes
  pub unsolved_refuses : (e r : Outcome)
      → IsSolved (planning_between ctx from.ends.stored from.ends.goal budget) (Err e) → IsRefusalOf from.scope e r
      → RefusesAlways r
  unsolved_refuses Memory r is said = subst RefusesAlways (sym said) tt
  unsolved_refuses Unorderable r is (inl said) = subst RefusesAlways (sym said) tt
  unsolved_refuses Unorderable r is (inr said) = subst RefusesAlways (sym said) tt
  unsolved_refuses (Budget n) r is (inl said) = subst RefusesAlways (sym said) tt
  unsolved_refuses (Budget n) r is (inr said) = subst RefusesAlways (sym said) tt
  unsolved_refuses other r never said = absurd never

-- ---- all scopes

-- where all are ready for a search each is
pub ready_at : (ctx : Ctx) (es : List ScopeEnds) (i : ℕ) (e : ScopeEnds) → i < length es → e ≡ get_or es i e
    → AreReady ctx es → IsReadyBetween ctx e.ends
ready_at ctx [] i e less is ready = absurd (omega (arith, less))
ready_at ctx (x ∷ es) zero e less is ready = subst (λ (y : ScopeEnds). IsReadyBetween ctx y.ends) (sym is) ready.0
ready_at ctx (x ∷ es) (suc i) e less is ready = ready_at ctx es i e (omega (arith, less)) is ready.1

-- what was found of the folder and of the searches is what is asked
pub solved_in : (o : Option State) (path : List ℕ) (budget : ℕ) (all : ScopesPlanning)
    (r : Result (List code.ScopePlan) Outcome)
    → Finds o plans_of (Ok all) (scopes_asked path budget)
    → Found (map scope_plan) r (of_each solved_asked (plans_of all))
    → Finds o (map scope_plan) r (scopes_solved path budget)
solved_in None path budget all r h f = tt
solved_in (Some s) path budget all r h f =
    then_found plans_of (map scope_plan) all r (scopes_asked path budget s) (of_each solved_asked) h f

pub none_solved : (o : Option State) (path : List ℕ) (budget : ℕ) (e : Outcome)
    → Finds {X = ScopesPlanning} o plans_of (Err e) (scopes_asked path budget)
    → Finds {X = List code.ScopePlan} o (map scope_plan) (Err e) (scopes_solved path budget)
none_solved None path budget e h = tt
none_solved (Some s) path budget e h =
    first_refused plans_of (map scope_plan) e (scopes_asked path budget s) (of_each solved_asked) h

-- ---- the text

-- one scope more
pub text_more : (ps : List ScopePlan) (p : ScopePlan)
    → scopes_text (ps ++ p ∷ []) ≡ scopes_text ps ++ (scope_line p.0 ++ plan_text p.1)
text_more [] p = append-nil (scope_line p.0 ++ plan_text p.1)
text_more (q ∷ ps) p =
    ap (λ (t : List ℕ). scope_line q.0 ++ plan_text q.1 ++ t) (text_more ps p)
    ∙ sym (append_assoc (scope_line q.0 ++ plan_text q.1) (scopes_text ps) (scope_line p.0 ++ plan_text p.1))

-- ---- what is said

pub plans_say : (o : Option State) (path : List ℕ) (budget : ℕ) (plans : List code.ScopePlan)
    → Finds o (map scope_plan) (Ok plans) (scopes_solved path budget)
    → IfSome o (λ s. Says (plan_scopes_asked path budget s) s s Done
    (scopes_text (map scope_plan plans) ++ last_line Done))
plans_say None path budget plans h = tt
plans_say (Some s) path budget plans h =
    (plan_scopes (map scope_plan plans), inr (map scope_plan plans, h.gives, refl), refl, refl)

pub refusal_says : (o : Option State) (path : List ℕ) (budget : ℕ) (e : Outcome) (old new : Counts) → Refuses old new e
    → Finds {X = List code.ScopePlan} o (map scope_plan) (Err e) (scopes_solved path budget)
    → IfSome o (λ s. Says (plan_scopes_asked path budget s) s s e (last_line e))
refusal_says None path budget e old new refuses h = tt
refusal_says (Some s) path budget e old new refuses h =
    let asked : Found {X = List code.ScopePlan} (λ plans. plan_scopes (map scope_plan plans)) (Err e)
    (plan_scopes_asked path budget s) =
    first_refused (map scope_plan) (λ plans. plan_scopes (map scope_plan plans)) e (scopes_solved path budget s) _ h in
    refused_says (plan_scopes_asked path budget s) s e old new refuses asked.stands asked.gives

-- ---- what a crash leaves

-- nothing but a front of what is printed
pub still_left : {H : Type 0} (told : H → Option State) (moment : H → ℕ) (left_since : H → ℕ → Left → Type 0)
    (asking : State → Asking Request) (old mid new : H)
    (answer : Outcome) (text : List ℕ) → IsStill told moment left_since old mid
    → Elapses moment left_since mid new (LeftInText text (told mid))
    → IfSome (told old) (λ s. Says (asking s) s s answer text)
    → (left : Left) → IsLeftFrom told moment left_since old new left → LeftTo asking (told old) left
still_left told moment left_since asking old mid new answer text still time says left (t, (early, now), since) =
    ⊎_elim (λ before. left_here asking (told old) left (still.stays t early now left before))
    (λ printing. said_left asking (told old) answer text says left
    (subst (λ (o : Option State). LeftInText text o left) still.tells printing))
    (time.nothing_else t left (omega (arith, early, still.later)) since)

-- no count falls while that is printed
pub fell_on : (old mid new : Counts) → NoneFell old mid → PrintMayRise mid new → NoneFell old new
fell_on old mid new fell rises =
    let on : NoneFell mid new = print_fell mid new rises in
    record {
      input = omega (arith, fell.input, on.input);
      disk = omega (arith, fell.disk, on.disk);
      print = omega (arith, fell.print, on.print);
      service = omega (arith, fell.service, on.service);
    }

-- the text of the first scopes and one more
pub text_on : (ps : List code.ScopePlan) (i : ℕ) (p : code.ScopePlan) (text more : List ℕ) → i < length ps
    → p ≡ get_or ps i p
    → text ≡ scopes_text (map scope_plan (take i ps)) → more ≡ text ++ (scope_line p.scope ++ plan_text p.plan)
    → more ≡ scopes_text (map scope_plan (take (i + 1) ps))
text_on ps i p text more less is so_far on =
    on
    ∙ ap (λ (t : List ℕ). t ++ (scope_line p.scope ++ plan_text p.plan)) so_far
    ∙ sym (text_more (map scope_plan (take i ps)) (scope_plan p))
    ∙ ap scopes_text
    (sym (ap (map scope_plan) (take_more ps i p less ∙ ap (λ (x : code.ScopePlan). take i ps ++ x ∷ []) (sym is))
    ∙ map-append scope_plan (take i ps) (p ∷ [])))
