-- What can be told, and of which finite sets some member can be told.
use Rattle.std.proofs.Common.{◌≡◌, ◌⊎◌, inl, inr, ℕ, zero, suc, ◌<◌, ◌≤◌, List, [], ◌∷◌, length, Option, Some, None, IsSomeAnd, refl, sym, ap, subst, ◌∙◌, arith}
use Rattle.std.specs.List.{Contains}
use Rattle.yang_pattern.proofs.Decisions.{Told, both, like}
use Rattle.conf_doc.specs.declared.parts.Part.{Part}
use Rattle.conf_doc.proofs.Edits.{same_Some}
use Rattle.move_core.specs.Moves.{Place}
use Rattle.move_core.specs.declared.moves.Move.TheVariants.{Add, Remove}
use Rattle.move_lists.specs.Finite.{IsFinite}
use Rattle.move_lists.proofs.Members.{first_member, later_member, member_cases, no_member}
use Rattle.plan_search.specs.Kits.{moves_told}

-- it doesn't hold
pub not_told : {P : Type 0} → Told P → Told (¬ P)
not_told (inl p) = inr (λ n. n p)
not_told (inr n) = inl n

pub three : {P Q R : Type 0} → Told P → Told Q → Told R → Told (P × Q × R)
three p q r = like (λ h. (h.0, h.1.0, h.1.1)) (λ h. (h.0, (h.1, h.2))) (both p (both q r))

pub four : {P Q R S : Type 0} → Told P → Told Q → Told R → Told S → Told (P × Q × R × S)
four p q r s =
    like (λ h. (h.0, h.1.0, h.1.1.0, h.1.1.1)) (λ h. (h.0, (h.1, (h.2, h.3)))) (both p (both q (both r s)))

-- ---- members

module _ {A : Type 0} (P : A → Type 0) (told : (x : A) → Told (P x)) where
  -- some member of a list is so
  pub member_told : (xs : List A) → Told ((x : A) × Contains xs x × P x)
  member_told [] = inr (λ h. no_member h.0 h.1)
  member_told (y ∷ ys) = by (told y) (member_told ys)
    where
      by : Told (P y) → Told ((x : A) × Contains ys x × P x) → Told ((x : A) × Contains (y ∷ ys) x × P x)
      by (inl p) t = inl (y, first_member y ys, p)
      by (inr n) (inl h) = inl (h.0, later_member y ys h.0 h.1, h.2)
      by (inr n) (inr m) = inr (λ h. at h.0 h.2 (member_cases y ys h.0 h.1))
        where
          at : (x : A) → P x → (y ≡ x) ⊎ Contains ys x → ⊥
          at x p (inl e) = n (subst P (sym e) p)
          at x p (inr c) = m (x, c, p)

  -- something is so, where finitely many things are
  pub finite_told : IsFinite P → Told ((x : A) × P x)
  finite_told f = like (λ h. (h.0, h.2)) (λ h. (h.0, f.1 h.0 h.1, h.1)) (member_told f.0)

  -- what may be there is so
  pub and_told : (o : Option A) → Told (IsSomeAnd o P)
  and_told None = inr (λ h. h)
  and_told (Some x) = told x

-- the list without one of its members
abbrev pub Without : {A : Type 0} → List A → A → List A → Type 0
Without {A} xs x ys = (length xs ≡ suc (length ys)) × ((y : A) → Contains xs y → (x ≡ y) ⊎ Contains ys y)

pub without_one : {A : Type 0} (xs : List A) (x : A) → Contains xs x → (ys : List A) × Without xs x ys
without_one [] x h = absurd (no_member x h)
without_one {A} (z ∷ zs) x h = by (without_one zs x) (member_cases z zs x h)
  where
    by : (Contains zs x → (ys : List A) × Without zs x ys) → (z ≡ x) ⊎ Contains zs x
        → (ys : List A) × Without (z ∷ zs) x ys
    by later (inl e) = (zs, (refl, λ y h. at y (member_cases z zs y h)))
      where
        at : (y : A) → (z ≡ y) ⊎ Contains zs y → (x ≡ y) ⊎ Contains zs y
        at y (inl f) = inl (sym e ∙ f)
        at y (inr k) = inr k
    by later (inr c) = put (later c)
      where
        put : (ys : List A) × Without zs x ys → (ys : List A) × Without (z ∷ zs) x ys
        put (ys, (len, all)) = (z ∷ ys, (ap suc len, λ y h. at y (member_cases z zs y h)))
          where
            on : (y : A) → (x ≡ y) ⊎ Contains ys y → (x ≡ y) ⊎ Contains (z ∷ ys) y
            on y (inl e) = inl e
            on y (inr k) = inr (later_member z ys y k)

            at : (y : A) → (z ≡ y) ⊎ Contains zs y → (x ≡ y) ⊎ Contains (z ∷ ys) y
            at y (inl f) = inr (subst (Contains (z ∷ ys)) f (first_member z ys))
            at y (inr k) = on y (all y k)

-- ---- numbers below one

abbrev below : ℕ → List ℕ
below zero = []
below (suc n) = n ∷ below n

split : (a b : ℕ) → (a < b) ⊎ (b ≤ a)
split a b = grind arith

is_below : (n i : ℕ) → i < n → Contains (below n) i
is_below zero i less = absurd (omega (arith, less))
is_below (suc n) i less = by (is_below n i) (split i n)
  where
    by : (i < n → Contains (below n) i) → (i < n) ⊎ (n ≤ i) → Contains (below (suc n)) i
    by rest (inl before) = later_member n (below n) i (rest before)
    by rest (inr past) =
        let same : n ≡ i = omega (arith, less, past) in subst (Contains (below (suc n))) same (first_member n (below n))

pub finite_below : (n : ℕ) → IsFinite (λ i. i < n)
finite_below n = (below n, is_below n)

-- ---- equality

module _ {A : Type 0} (same : (x y : A) → Told (x ≡ y)) where
  -- that is what is there
  pub some_told : (o : Option A) (a : A) → Told (o ≡ Some a)
  some_told None a = inr (λ e. absurd cc)
  some_told (Some x) a = like (λ e. ap Some e) (λ e. same_Some x a e) (same x a)

  -- the same is there
  pub same_option : (o p : Option A) → Told (o ≡ p)
  same_option o (Some y) = some_told o y
  same_option None None = inl refl
  same_option (Some x) None = inr (λ e. absurd cc)

pub same_place : (p q : Place) → Told (p ≡ q)
same_place p q = like (λ e. same e) (λ e. ap Remove e) (moves_told (Remove p) (Remove q))
  where
    same : Remove p ≡ Remove q → p ≡ q
    same e = cc

pub same_part : (x y : Part) → Told (x ≡ y)
same_part x y = like (λ e. same e) (λ e. ap (Add []) e) (moves_told (Add [] x) (Add [] y))
  where
    same : Add [] x ≡ Add [] y → x ≡ y
    same e = cc
