-- Calls made at one name after another, until one fails.
use Rattle.std.specs.Prelude.{◌≡◌, ℕ, List, ◌∷◌, ◌++◌, Result, Ok, Err}
use Rattle.std.specs.Fn.{CalledAt}
use Rattle.std.specs.List.{FoldsTo}
use Rattle.host_core.specs.declared.errors.Failed.{Failed}
use denote.Param.Members.{Mut}
use denote.Ref.{Bor}

module _ {C : Type 0} (calls : Mut C (Bor (List ℕ) × Unit {0}) (Result (Unit {0}) Failed)) where
  -- the calls at these names led from one state to the other, and all was done
  abbrev pub Leads : C → List (List ℕ) → C → Type 0
  Leads from names to = FoldsTo (λ p name q. CalledAt calls p name (Ok tt) q) from names to

  -- there was a call at each name, and all was done
  abbrev pub AreDone : C → List (List ℕ) → Type 0
  AreDone call names = (last : C) × Leads call names last

  -- the call at one of the names failed, after those before it
  abbrev pub AnyFails : C → List (List ℕ) → Type 0
  AnyFails call names =
      (before : List (List ℕ)) × (name : List ℕ) × (after : List (List ℕ)) × (mid last : C)
      × (names ≡ before ++ name ∷ after) × Leads call before mid
      × CalledAt calls mid name (Err (record {})) last
