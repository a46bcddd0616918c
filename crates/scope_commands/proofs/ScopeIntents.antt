-- Where a change of several scopes is asked, no scope has an intent.
use Rattle.std.proofs.Common.{◌≡◌, inl, inr, ℕ, List, [], ◌∷◌, sym, ap, ◌∙◌, subst, Option, Some, None, Result, Ok, Err, IfSome}
use Rattle.std.specs.FinMap.{get}
use Rattle.std.specs.List.{AllByRecursion}
use Rattle.host_core.specs.State.{State}
use Rattle.conf_store.specs.Files.{intent_file}
use Rattle.move_core.specs.declared.contexts.Ctx.{Ctx}
use Rattle.scopes.specs.Splitting.{Part}
use Rattle.scopes.specs.Views.{seen, seen_files}
use Rattle.scopes.specs.declared.scope.Scope.{Scope}
use Rattle.scope_changes.specs.Works.{ScopeWork}
use Rattle.gcu_output.specs.declared.outcomes.Outcome.{Outcome}
use Rattle.gcu_inputs.specs.Asking.{of_each}
use Rattle.gcu_inputs.specs.IntentAsked.{uninterrupted, uninterrupted_answer}
use Rattle.gcu_requests.specs.ScopesAsked.{ScopePlanning, part_asked, scopes_asked}
use Rattle.scope_commands.specs.ScopeEndings.{AreClosed}
use Rattle.scope_commands.specs.ScopeWorks.{AreWorks, AreWorksFor}

-- the scope has none
abbrev IsOpen : State → Scope → Type 0
IsOpen s scope = get (seen_files scope s.files) intent_file ≡ None

none_there : (found : Option (List ℕ)) → uninterrupted_answer found ≡ Ok tt → found ≡ None
none_there None is = λ i. None
none_there (Some bytes) is = absurd cc

abbrev found_in : Result (Option (List ℕ)) Outcome → Option (List ℕ)
found_in (Ok found) = found
found_in (Err e) = None

given_open : (s : State) → (uninterrupted s).Gives (Ok tt) → get s.files intent_file ≡ None
given_open s (inl never) = absurd never
given_open s (inr (found, is, answer)) = ap found_in is ∙ none_there found answer

abbrev planning_in : Result ScopePlanning Outcome → ScopePlanning → ScopePlanning
planning_in (Ok p) other = p
planning_in (Err e) other = other

module _ (ctx : Ctx) (budget : ℕ) (s : State) where
  part_open : (part : Part) (p : ScopePlanning) → (part_asked ctx budget s part).Gives (Ok p) → IsOpen s p.0
  part_open part p (inl never) = absurd never
  part_open part p (inr (q, inl never, same)) = absurd never
  part_open part p (inr (q, inr (u, closed, rest), same)) =
      subst (IsOpen s) (ap (λ (r : Result ScopePlanning Outcome). (planning_in r p).0) same)
      (given_open (seen part.0 s) closed)

  each_open : (parts : List Part) (ps : List ScopePlanning) → (of_each (part_asked ctx budget s) parts).Gives (Ok ps)
      → AllByRecursion (λ (p : ScopePlanning). IsOpen s p.0) ps
  each_open [] [] gives = tt
  each_open [] (p ∷ ps) gives = absurd cc
  each_open (part ∷ parts) ps (inl never) = absurd never
  each_open (part ∷ parts) ps (inr (y, one, inl never)) = absurd never
  each_open (part ∷ parts) [] (inr (y, one, inr (ys, rest, same))) = absurd cc
  each_open (part ∷ parts) (p ∷ ps) (inr (y, one, inr (ys, rest, same))) =
      let first : y ≡ p = cc in
      let others : ys ≡ ps = cc in (
        subst (λ (q : ScopePlanning). IsOpen s q.0) first (part_open part y one),
        subst (AllByRecursion (λ (q : ScopePlanning). IsOpen s q.0)) others (each_open parts ys rest),
      )

scopes_open : (path : List ℕ) (budget : ℕ) (s : State) (ps : List ScopePlanning)
    → (scopes_asked path budget s).Gives (Ok ps) → AllByRecursion (λ (p : ScopePlanning). IsOpen s p.0) ps
scopes_open path budget s ps (inl never) = absurd never
scopes_open path budget s ps (inr (u, closed, inl never)) = absurd never
scopes_open path budget s ps (inr (u, closed, inr (ctx, read, inl never))) = absurd never
scopes_open path budget s ps (inr (u, closed, inr (ctx, read, inr (ops, found, inl never)))) = absurd never
scopes_open path budget s ps (inr (u, closed, inr (ctx, read, inr (ops, found, inr (parts, split, each))))) =
    each_open ctx budget s parts ps each

works_open : (s : State) (ps : List ScopePlanning) (works : List ScopeWork) → AreWorksFor s ps works
    → AllByRecursion (λ (p : ScopePlanning). IsOpen s p.0) ps → AreClosed works s.files
works_open s [] [] each closed = tt
works_open s [] (w ∷ works) never closed = absurd never
works_open s (p ∷ ps) [] never closed = absurd never
works_open s (p ∷ ps) (w ∷ works) each closed =
    (subst (IsOpen s) (sym each.0.scope) closed.0, works_open s ps works each.1 closed.1)

-- so the changes are begun without one
pub are_closed : (path : List ℕ) (budget : ℕ) (o q : Option State) (works : List ScopeWork) → q ≡ o
    → IfSome o (λ s. AreWorks path budget s works)
    → IfSome q (λ s. AreClosed works s.files)
are_closed path budget o q works same are =
    by q (subst (λ p. IfSome p (λ s. AreWorks path budget s works)) (sym same) are)
  where
    by : (p : Option State) → IfSome p (λ s. AreWorks path budget s works) → IfSome p (λ s. AreClosed works s.files)
    by None h = tt
    by (Some s) h = works_open s h.plannings works h.each (scopes_open path budget s h.plannings h.asked)
