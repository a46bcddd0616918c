-- The moments of a host as a scope shows them.
use Rattle.std.proofs.Common.{◌⊎◌, inl, inr, ⊎_elim, ℕ, ◌≤◌, List, Option, option_map, sym, subst}
use Rattle.host_core.specs.Crashes.{Elapses, Left, MayLeaveInPrint, MayLeaveNow, Passes}
use Rattle.host_core.specs.State.{State}
use Rattle.scopes.specs.Images.{may_seen, print_seen, seen_print}
use Rattle.scopes.specs.Views.{IsSeen, seen, seen_left}
use Rattle.scopes.specs.declared.scope.Scope.{Scope}

-- time goes on for what the scope shows
pub record SeenElapses {H : Type 0} (moment : H → ℕ) (left_since : H → ℕ → Left → Type 0) (scope : Scope) (old new : H) (these : Left → Type 0) : Type 0 where
  pub later : moment old ≤ moment new
  pub nothing_else : (t : ℕ) (left : Left) → t ≤ moment old → IsSeen scope (left_since new t) left → IsSeen scope (left_since old t) left ⊎ these left
  pub keeps : (t : ℕ) (left : Left) → t ≤ moment old → IsSeen scope (left_since old t) left → IsSeen scope (left_since new t) left

module _ {H : Type 0} (moment : H → ℕ) (left_since : H → ℕ → Left → Type 0) (scope : Scope) (old new : H) where
  elapses : (inner outer : Left → Type 0) → ((whole : Left) → inner whole → outer (seen_left scope whole))
      → Elapses moment left_since old new inner → SeenElapses moment left_since scope old new outer
  elapses inner outer each time = record {
    later = time.later;
    nothing_else = λ t left le seen.
        ⊎_elim (λ before. inl (seen.0, before, seen.2)) (λ one. inr (subst outer (sym seen.2) (each seen.0 one))) (time.nothing_else t seen.0 le seen.1);
    keeps = λ t left le seen. (seen.0, time.keeps t seen.0 le seen.1, seen.2);
  }

  -- in a call with a moment before it and one after it
  pub elapses_now : (o : Option State) → Elapses moment left_since old new (MayLeaveNow o)
      → SeenElapses moment left_since scope old new (MayLeaveNow (option_map (seen scope) o))
  elapses_now o = elapses (MayLeaveNow o) (MayLeaveNow (option_map (seen scope) o)) (may_seen scope o)

  -- in a call that prints
  pub elapses_print : (bytes : List ℕ) (o : Option State) → Elapses moment left_since old new (MayLeaveInPrint bytes o)
      → SeenElapses moment left_since scope old new (MayLeaveInPrint bytes (option_map (seen scope) o))
  elapses_print bytes o = elapses (MayLeaveInPrint bytes o) (MayLeaveInPrint bytes (option_map (seen scope) o)) (print_seen scope bytes o)

  pub passes_print : (bytes : List ℕ) (o : Option State) → Passes moment left_since old new (MayLeaveInPrint bytes o)
      → (t : ℕ) (left : Left) → t ≤ moment old → MayLeaveInPrint bytes (option_map (seen scope) o) left → IsSeen scope (left_since new t) left
  passes_print bytes o passes t left le may =
      let found = seen_print scope bytes o left may in (found.0, passes t found.0 le found.1, found.2)
