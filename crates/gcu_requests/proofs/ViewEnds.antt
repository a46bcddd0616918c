-- What was found over a view, as the host behind it has it.
use Rattle.std.proofs.Common.{◌≡◌, ◌≤◌, ◌⊎◌, ⊎_elim, ℕ, refl, sym, ◌∙◌, subst, arith, Option, Some, None, Result, Ok, Err, IfOk, IfSome, option_map}
use Rattle.host_core.specs.Crashes.{Elapses, Left, MayLeaveNow}
use Rattle.host_core.specs.State.{State, settled}
use Rattle.conf_store.specs.Folds.{StandsFor}
use Rattle.conf_store.specs.declared.loaded.Stored.{Stored}
use Rattle.scopes.specs.Views.{AreOthersSame, AreOthersSettled, IsSeen, KeepsOthers, seen, seen_files}
use Rattle.scopes.specs.declared.scope.Scope.{Scope}
use Rattle.gcu_output.specs.declared.outcomes.Outcome.{Outcome}
use Rattle.gcu_inputs.specs.Asking.{Asking}
use Rattle.gcu_inputs.specs.Preparing.{Finds}
use Rattle.gcu_requests.specs.ScopesPlannings.{IsStill}
use Rattle.gcu_requests.specs.declared.scopes_planning.Ends.{Ends}
use Rattle.gcu_requests.proofs.UnchangedViews.{stays_behind, told_behind}
use Rattle.gcu_requests.proofs.ScopesFinding.{found_behind}

-- what was found of the view is found of what the scope shows
pub answer_viewed : {X Y : Type 0} (scope shown : Scope) (o behind : Option State) → shown ≡ scope → behind ≡ o
    → (view : X → Y) (r : Result X Outcome) (asking : State → Asking Y)
    → Finds (option_map (seen shown) behind) view r asking → Finds o view r (λ s. asking (seen scope s))
answer_viewed scope shown o behind is same view r asking h =
    found_behind scope o view r asking
    (subst (λ (q : Option State). Finds (option_map (seen scope) q) view r asking) same
    (subst (λ (s : Scope). Finds (option_map (seen s) behind) view r asking) is h))

files_stand : (scope : Scope) (o : Option State) (stored : Stored)
    → IfSome (option_map (seen scope) o) (λ s. StandsFor stored s.files)
    → IfSome o (λ s. StandsFor stored (seen_files scope s.files))
files_stand scope None stored h = tt
files_stand scope (Some s) stored h = h

pub stands_viewed : (scope shown : Scope) (o behind : Option State) → shown ≡ scope → behind ≡ o
    → (r : Result Ends Outcome)
    → IfOk r (λ e. IfSome (option_map (seen shown) behind) (λ s. StandsFor e.stored s.files))
    → IfOk r (λ e. IfSome o (λ s. StandsFor e.stored (seen_files scope s.files)))
stands_viewed scope shown o behind is same (Err e) h = tt
stands_viewed scope shown o behind is same (Ok e) h =
    files_stand scope o e.stored
    (subst (λ (q : Option State). IfSome (option_map (seen scope) q) (λ s. StandsFor e.stored s.files)) same
    (subst (λ (s : Scope). IfSome (option_map (seen s) behind) (λ t. StandsFor e.stored t.files)) is h))

module _ {H : Type 0} (told : H → Option State) (moment : H → ℕ) (left_since : H → ℕ → Left → Type 0) where
  -- the clauses of a run over views that change nothing of what they show
  record IsShown (from to : Scope) (old new : H) : Type 0 where
    shown : option_map (seen to) (told new) ≡ option_map (seen from) (told old)
    nothing_else : (t : ℕ) (left : Left) → t ≤ moment old → IsSeen to (left_since new t) left
        → IsSeen from (left_since old t) left ⊎ MayLeaveNow (option_map (seen from) (told old)) left
    keeps : KeepsOthers told moment left_since from old new

  still_by : (scope : Scope) (old new : H) → IfSome (told old) (λ s. s.pending ≡ settled) → IsShown scope scope old new
      → IsStill told moment left_since old new
  still_by scope old new clean h = record {
    tells = told_behind scope (told old) (told new) clean h.keeps.tells h.shown h.keeps.now;
    later = h.keeps.later;
    stays = λ t le now.
        stays_behind scope (told old) (left_since old t) (left_since new t) clean now
        (λ left since. h.nothing_else t left le since)
        (at (told old) t le h.keeps.ever);
  }
    where
      at : (o : Option State) (t : ℕ) → t ≤ moment old
          → IfSome o (λ s. AreOthersSettled scope s → (u : ℕ) (left : Left) → u ≤ moment old → left_since new u left
          → left_since old u left ⊎ AreOthersSame scope s.files left.files)
          → IfSome o (λ s. AreOthersSettled scope s → (left : Left) → left_since new t left
          → left_since old t left ⊎ AreOthersSame scope s.files left.files)
      at None t le ever = tt
      at (Some s) t le ever = λ clean left since. ever clean t left le since

  pub still_viewed : (scope from to : Scope) (old behind new ended : H) → from ≡ scope → to ≡ from → behind ≡ old
      → new ≡ ended
      → IfSome (told old) (λ s. s.pending ≡ settled)
      → option_map (seen to) (told ended) ≡ option_map (seen from) (told behind)
      → ((t : ℕ) (left : Left) → t ≤ moment behind → IsSeen to (left_since ended t) left
      → IsSeen from (left_since behind t) left ⊎ MayLeaveNow (option_map (seen from) (told behind)) left)
      → KeepsOthers told moment left_since from behind ended → IsStill told moment left_since old new
  still_viewed scope from to old behind new ended is same begins ends clean shown nothing_else keeps =
      still_by scope old new clean
      (subst (λ (n : H). IsShown scope scope old n) (sym ends)
      (subst (λ (o : H). IsShown scope scope o ended) begins
      (subst (λ (s : Scope). IsShown s s behind ended) is
      (subst (λ (s : Scope). IsShown from s behind ended) same
      (record { shown = shown; nothing_else = nothing_else; keeps = keeps })))))

  -- two such runs are one
  pub still_on : (old mid new : H) → IsStill told moment left_since old mid → IsStill told moment left_since mid new
      → IsStill told moment left_since old new
  still_on old mid new first second = record {
    tells = second.tells ∙ first.tells;
    later = omega (arith, first.later, second.later);
    stays = λ t le now left since.
        subst (λ (o : Option State). MayLeaveNow o left) first.tells
        (second.stays t (omega (arith, le, first.later))
        (λ l before. subst (λ (o : Option State). MayLeaveNow o l) (sym first.tells) (first.stays t le now l before))
        left since);
  }

  -- a run in which the whole host tells the same is one
  pub still_elapsed : (old new : H) → told new ≡ told old → Elapses moment left_since old new (MayLeaveNow (told old))
      → IsStill told moment left_since old new
  still_elapsed old new same time = record {
    tells = same;
    later = time.later;
    stays = λ t le now left since. ⊎_elim (now left) (λ may. may) (time.nothing_else t left le since);
  }

  -- nothing is called yet
  pub still_here : (host : H) → IsStill told moment left_since host host
  still_here host = record { tells = refl; later = omega arith; stays = λ t le now left since. now left since }

-- nothing is pending where nothing was
pub still_clean : (o q : Option State) → q ≡ o → IfSome o (λ s. s.pending ≡ settled)
    → IfSome q (λ s. s.pending ≡ settled)
still_clean o q is clean = subst (λ (p : Option State). IfSome p (λ s. s.pending ≡ settled)) (sym is) clean
