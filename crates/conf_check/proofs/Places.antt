-- Lists of pairs that are read by place, one side at a time.
use Rattle.std.proofs.Common.{◌≡◌, ℕ, zero, suc, List, [], ◌∷◌, map, slice_get, Some, ap}

some_same : {A : Type 0} (x y : A) → Some x ≡ Some y → x ≡ y
some_same x y e = cc

-- the pair at a place, by its sides
pub pair_at : {A B : Type 0} (ps : List (A × B)) (i : ℕ) (a : A) (b : B) → slice_get (map (λ p. p.0) ps) i ≡ Some a
    → slice_get (map (λ p. p.1) ps) i ≡ Some b → slice_get ps i ≡ Some (a, b)
pair_at [] i a b left right = cc
pair_at (p ∷ ps) zero a b left right =
    let l : p.0 ≡ a = some_same p.0 a left in
    let r : p.1 ≡ b = some_same p.1 b right in
    λ j. Some (l j, r j)
pair_at (p ∷ ps) (suc i) a b left right = pair_at ps i a b left right

-- its sides
pub left_at : {A B : Type 0} (ps : List (A × B)) (i : ℕ) (p : A × B) → slice_get ps i ≡ Some p → slice_get (map (λ p. p.0) ps) i ≡ Some p.0
left_at [] i p at = cc
left_at (q ∷ ps) zero p at = ap (λ (r : _). Some r.0) (some_same q p at)
left_at (q ∷ ps) (suc i) p at = left_at ps i p at

-- what stands at a place has a name
pub named_at : {A B : Type 0} (ps : List (A × B)) (i : ℕ) (b : B) → slice_get (map (λ p. p.1) ps) i ≡ Some b → (a : A) × (slice_get ps i ≡ Some (a, b))
named_at [] i b at = cc
named_at (p ∷ ps) zero b at = (p.0, let r : p.1 ≡ b = some_same p.1 b at in λ j. Some (p.0, r j))
named_at (p ∷ ps) (suc i) b at = named_at ps i b at

-- and what has a name stands at it
pub holder_at : {A B : Type 0} (ps : List (A × B)) (i : ℕ) (a : A) → slice_get (map (λ p. p.0) ps) i ≡ Some a → (b : B) × (slice_get ps i ≡ Some (a, b))
holder_at [] i a at = cc
holder_at (p ∷ ps) zero a at = (p.1, let l : p.0 ≡ a = some_same p.0 a at in λ j. Some (l j, p.1))
holder_at (p ∷ ps) (suc i) a at = holder_at ps i a at
