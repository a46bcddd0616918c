-- What a call puts at the end of a list.
use Rattle.std.specs.Prelude.{◌≡◌, ◌<◌, ◌≤◌, ℕ, List, Result, Ok, Err, Some, map, slice_get}
use Rattle.conf_doc.specs.Pairs.{find}
use Rattle.move_core.specs.Appends.{Appends, AppendsSome}

-- all that are as Is says, each once; without memory some of them, none twice
abbrev pub Gives : {A T E : Type 0} → (A → Type 0) → Result T E → List A → List A → Type 0
Gives Is (Ok x) old new = Appends Is old new
Gives Is (Err e) old new = AppendsSome Is old new

-- what a name, what it names and an item have to do with one another
abbrev pub Giver : Type 0 → Type 0 → Type 1
Giver A B = List ℕ → A → B → Type 0

-- an item for some pair of the list
pub record IsOfSome {A B : Type 0} (Is : Giver A B) (ps : List (List ℕ × A)) (b : B) : Type 0 where
  pub name : List ℕ
  pub part : A
  pub there : find name ps ≡ Some part
  pub is : Is name part b

-- an item for some pair before an index
pub record IsOfFirst {A B : Type 0} (Is : Giver A B) (ps : List (List ℕ × A)) (n : ℕ)
    (b : B) : Type 0 where
  pub index : ℕ
  pub before : index < n
  pub name : List ℕ
  pub named : slice_get (map (λ p. p.0) ps) index ≡ Some name
  pub part : A
  pub there : slice_get (map (λ p. p.1) ps) index ≡ Some part
  pub is : Is name part b

-- none is for a pair from an index on and before another
abbrev pub IsNoneFrom : {A B : Type 0} → Giver A B → List (List ℕ × A) → ℕ → ℕ → Type 0
IsNoneFrom {A} {B} Is ps i n =
    (j : ℕ) → i ≤ j → j < n → (name : List ℕ) (part : A)
    → slice_get (map (λ p. p.0) ps) j ≡ Some name
    → slice_get (map (λ p. p.1) ps) j ≡ Some part
    → (b : B) → ¬ Is name part b
