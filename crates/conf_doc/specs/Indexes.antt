-- Where a name stands in a list of pairs that is sorted by names, or would stand.
use Rattle.std.specs.Prelude.{◌≡◌, ℕ, zero, suc, ◌<◌, ◌≤◌, List, [], ◌∷◌, map, length, slice_get, Some}
use Rattle.std.specs.declared.cmp.Ordering.TheVariants.{Less, Greater}
use Rattle.host_core.specs.Names.{name_cmp}

-- the pair at that index has the name
pub record IsAt {A : Type 0} (ps : List (List ℕ × A)) (name : List ℕ) (i : ℕ) : Type 0 where
  pub within : i < length ps
  pub has : slice_get (map (λ p. p.0) ps) i ≡ Some name

-- the name is above those before that index, and below the first one from it on
abbrev pub IsBetween : {A : Type 0} → List (List ℕ × A) → List ℕ → ℕ → Type 0
IsBetween [] name i = Unit {0}
IsBetween (p ∷ ps) name zero = name_cmp name p.0 ≡ Less
IsBetween (p ∷ ps) name (suc i) = (name_cmp name p.0 ≡ Greater) × IsBetween ps name i

-- the name stands nowhere, and would go to that index
pub record IsGap {A : Type 0} (ps : List (List ℕ × A)) (name : List ℕ) (i : ℕ) : Type 0 where
  pub within : i ≤ length ps
  pub between : IsBetween ps name i

-- the name is above the one before that index, where there is one
abbrev pub IsBehind : {A : Type 0} → List (List ℕ × A) → List ℕ → ℕ → Type 0
IsBehind ps name i =
    (k : ℕ) (n : List ℕ) → suc k ≡ i → slice_get (map (λ p. p.0) ps) k ≡ Some n
    → name_cmp name n ≡ Greater

-- the name is below the one at that index, where there is one
abbrev pub IsBefore : {A : Type 0} → List (List ℕ × A) → List ℕ → ℕ → Type 0
IsBefore ps name i =
    (n : List ℕ) → slice_get (map (λ p. p.0) ps) i ≡ Some n
    → name_cmp name n ≡ Less
