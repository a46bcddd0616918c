-- Boxes in a row: their kinds, and what is said of each, when one of them is written.
use Rattle.std.proofs.Common.{◌≡◌, ℕ, zero, suc, ◌+◌, ◌<◌, List, [], ◌∷◌, map, set, get_or, slice_get, Some, ◌⊎◌, inl, inr, refl, sym, ap, ◌∙◌, subst, arith}
use Rattle.move_core.specs.Kinds.{AreBefore, AreOfKinds, extender_kinds, generator_kinds, rule_kinds}

get_or-map : {A B : Type 0} (f : A → B) (xs : List A) (i : ℕ) (d : A) → get_or (map f xs) i (f d) ≡ f (get_or xs i d)
get_or-map f [] i d = refl
get_or-map f (x ∷ xs) zero d = refl
get_or-map f (x ∷ xs) (suc i) d = get_or-map f xs i d

fourth : (i d : ℕ) → i < 4 → get_or (1 ∷ 2 ∷ 3 ∷ 4 ∷ []) i d ≡ i + 1
fourth zero d below = refl
fourth (suc zero) d below = refl
fourth (suc (suc zero)) d below = refl
fourth (suc (suc (suc zero))) d below = refl
fourth (suc (suc (suc (suc i)))) d below = absurd (omega arith)

fifth : (i d : ℕ) → i < 5 → get_or (1 ∷ 2 ∷ 3 ∷ 4 ∷ 5 ∷ []) i d ≡ i + 1
fifth zero d below = refl
fifth (suc zero) d below = refl
fifth (suc (suc zero)) d below = refl
fifth (suc (suc (suc zero))) d below = refl
fifth (suc (suc (suc (suc zero)))) d below = refl
fifth (suc (suc (suc (suc (suc i))))) d below = absurd (omega arith)

same_Some : {A : Type 0} (x y : A) → Some x ≡ Some y → x ≡ y
same_Some x y e = cc

module _ {B : Type 0} (kind : B → ℕ) (boxes : List B) (i : ℕ) (b : B) (is : b ≡ get_or boxes i b) where
  by_kinds : (kinds : List ℕ) → AreOfKinds kind kinds boxes → kind b ≡ get_or kinds i (kind b)
  by_kinds kinds are = ap kind is ∙ sym (get_or-map kind boxes i b) ∙ ap (λ ks. get_or ks i (kind b)) are

  pub of_generator : i < 5 → AreOfKinds kind generator_kinds boxes → kind b ≡ i + 1
  of_generator below are = by_kinds generator_kinds are ∙ fifth i (kind b) below

  pub of_extender : i < 4 → AreOfKinds kind extender_kinds boxes → kind b ≡ i + 1
  of_extender below are = by_kinds extender_kinds are ∙ fourth i (kind b) below

  pub of_rule : i < 5 → AreOfKinds kind rule_kinds boxes → kind b ≡ i + 1
  of_rule below are = by_kinds rule_kinds are ∙ fifth i (kind b) below

same_kinds : {B : Type 0} (kind : B → ℕ) (boxes : List B) (i : ℕ) (b new : B) → b ≡ get_or boxes i b → kind new ≡ kind b → map kind (set boxes i new) ≡ map kind boxes
same_kinds kind [] i b new is same = refl
same_kinds kind (x ∷ xs) zero b new is same = ap (λ k. k ∷ map kind xs) (same ∙ ap kind is)
same_kinds kind (x ∷ xs) (suc i) b new is same = ap (λ ks. kind x ∷ ks) (same_kinds kind xs i b new is same)

-- a box of the same kind in its place
pub kinds_kept : {B : Type 0} (kind : B → ℕ) (kinds : List ℕ) (boxes : List B) (i : ℕ) (b new : B)
    → AreOfKinds kind kinds boxes → b ≡ get_or boxes i b → kind new ≡ kind b → AreOfKinds kind kinds (set boxes i new)
kinds_kept kind kinds boxes i b new are is same = same_kinds kind boxes i b new is same ∙ are

one_of : {B : Type 0} (boxes : List B) (i k : ℕ) (new b : B) → slice_get (set boxes i new) k ≡ Some b → (b ≡ new) ⊎ (slice_get boxes k ≡ Some b)
one_of [] i k new b e = absurd cc
one_of (x ∷ xs) zero zero new b e = inl (sym (same_Some _ _ e))
one_of (x ∷ xs) zero (suc k) new b e = inr e
one_of (x ∷ xs) (suc i) zero new b e = inr e
one_of (x ∷ xs) (suc i) (suc k) new b e = one_of xs i k new b e

-- another box in its place, of which the same is said
pub before_kept : {B : Type 0} (P : B → Type 0) (n : ℕ) (boxes : List B) (i : ℕ) (new : B) → P new → AreBefore n P boxes → AreBefore n P (set boxes i new)
before_kept P n boxes i new says are k b below e = elim (one_of boxes i k new b e) as (λ _. P b) [ inl is ↦ subst P (sym is) says | inr is ↦ are k b below is ]
