-- The kinds of the boxes of a kit.
use Rattle.std.specs.Prelude.{◌≡◌, ◌<◌, ℕ, List, [], ◌∷◌, map, slice_get, Some}

-- tables, keys, fields, seeds, items
abbrev pub generator_kinds : List ℕ
generator_kinds = 1 ∷ 2 ∷ 3 ∷ 4 ∷ 5 ∷ []

-- the place above, the delete, referrers, required values
abbrev pub extender_kinds : List ℕ
extender_kinds = 1 ∷ 2 ∷ 3 ∷ 4 ∷ []

-- full, no dependency, no empty table, create-only, required
abbrev pub rule_kinds : List ℕ
rule_kinds = 1 ∷ 2 ∷ 3 ∷ 4 ∷ 5 ∷ []

-- the boxes are of these kinds, in order
abbrev pub AreOfKinds : {B : Type 0} → (B → ℕ) → List ℕ → List B → Type 0
AreOfKinds kind kinds boxes = map kind boxes ≡ kinds

-- those before an index are as P says
abbrev pub AreBefore : {B : Type 0} → ℕ → (B → Type 0) → List B → Type 0
AreBefore {B = B} n P boxes = (i : ℕ) (b : B) → i < n → slice_get boxes i ≡ Some b → P b
