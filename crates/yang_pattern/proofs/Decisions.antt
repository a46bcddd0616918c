-- Facts that can be told: each holds, or it doesn't.
use Rattle.std.proofs.Common.{◌<◌, length, All, Any, Contains, get_or, ◌≡◌, ◌⊎◌, ◌↔◌, inl, inr, ℕ, zero, suc, ◌≤◌, Bool, true, false, true≢false, IsTrue, List, [], ◌∷◌, ◌++◌, bytes_eq, refl, sym, ap, ◌∙◌, subst, arith}
use Rattle.std.proofs.lemmas.Bool.Decides.{leb_tells, eqb_tells}
use Rattle.std.proofs.lemmas.Slice.Eq.{bytes_eq-Decides}
use Rattle.std.proofs.lemmas.List.Elements.{All-nil, All-cons, All-head, All-tail}
use Rattle.yang_pattern.specs.Decided.{IsDecided}

-- it holds, or it doesn't
abbrev pub Told : Type 0 → Type 0
Told P = P ⊎ (P → ⊥)

abbrev pub is_inl : {P : Type 0} → Told P → Bool
is_inl (inl p) = true
is_inl (inr n) = false

pub is_inl-is : {P : Type 0} (t : Told P) → IsTrue (is_inl t) ↔ P
is_inl-is (inl p) = (λ _. p, λ _. refl)
is_inl-is (inr n) = (λ h. absurd (true≢false (sym h)), λ p. absurd (n p))

-- what is told of each value is decided
pub decided_by : {X : Type 0} (Holds : X → Type 0) → ((x : X) → Told (Holds x)) → IsDecided Holds
decided_by Holds told = record { test = λ x. is_inl (told x); tells = λ x. is_inl-is (told x) }

pub told_by : {X : Type 0} (Holds : X → Type 0) → IsDecided Holds → (x : X) → Told (Holds x)
told_by Holds d x = by (d.test x) refl
  where
    by : (b : Bool) → d.test x ≡ b → Told (Holds x)
    by true e = inl ((d.tells x).0 e)
    by false e = inr (λ h. true≢false (sym ((d.tells x).1 h) ∙ e))

pub like : {P Q : Type 0} → (P → Q) → (Q → P) → Told P → Told Q
like to from (inl p) = inl (to p)
like to from (inr n) = inr (λ q. n (from q))

pub both : {P Q : Type 0} → Told P → Told Q → Told (P × Q)
both (inl p) (inl q) = inl (p, q)
both (inl p) (inr n) = inr (λ h. n h.1)
both (inr n) t = inr (λ h. n h.0)

pub either : {P Q : Type 0} → Told P → Told Q → Told (P ⊎ Q)
either (inl p) t = inl (inl p)
either (inr n) (inl q) = inl (inr q)
either (inr n) (inr m) = inr (λ h. elim h [ inl p ↦ n p | inr q ↦ m q ])

-- if it holds then the other has to be told
pub implied : {P Q : Type 0} → Told P → Told Q → Told (P → Q)
implied (inr n) t = inl (λ p. absurd (n p))
implied (inl p) (inl q) = inl (λ _. q)
implied (inl p) (inr m) = inr (λ h. m (h p))

pub at_most : (a b : ℕ) → Told (a ≤ b)
at_most a b = elim (leb_tells a b) [ inl h ↦ inl h.1 | inr h ↦ inr (λ le. omega (arith, le, h.1)) ]

pub same_number : (a b : ℕ) → Told (a ≡ b)
same_number a b = elim (eqb_tells a b) [ inl h ↦ inl h.1 | inr h ↦ inr h.1 ]

pub told_true : (b : Bool) → Told (IsTrue b)
told_true true = inl refl
told_true false = inr (λ h. true≢false (sym h))

pub same_text : (a b : List ℕ) → Told (a ≡ b)
same_text a b = like (bytes_eq-Decides a b).0 (bytes_eq-Decides a b).1 (told_true (bytes_eq a b))

-- a number up to a bound
pub up_to : (P : ℕ → Type 0) → ((n : ℕ) → Told (P n)) → (most : ℕ) → Told ((n : ℕ) × (n ≤ most) × P n)
up_to P told zero = like (λ p. (0, omega arith, p)) (λ h. let below = h.1 in subst P (omega arith) h.2) (told 0)
up_to P told (suc most) =
    like
    (λ h. elim h [ inl p ↦ (suc most, omega arith, p) | inr q ↦ let below = q.1 in (q.0, omega arith, q.2) ])
    (λ h. let below = h.1 in elim (same_number h.0 (suc most)) [
      | inl e ↦ inl (subst P e h.2)
      | inr other ↦ inr (h.0, less h.0 most below other, h.2)
    ])
    (either (told (suc most)) (up_to P told most))
  where
    less : (n m : ℕ) → n ≤ suc m → (n ≡ suc m → ⊥) → n ≤ m
    less n m below other = elim (at_most n m) [ inl le ↦ le | inr above ↦ absurd (other (equal n m below above)) ]
      where
        equal : (n m : ℕ) → n ≤ suc m → (n ≤ m → ⊥) → n ≡ suc m
        equal n m below above = elim (leb_tells n m) [ inl h ↦ absurd (above h.1) | inr h ↦ omega (arith, below, h.1) ]

-- a list that is two lists, one after another
abbrev pub Split : {X : Type 0} → (List X → List X → Type 0) → List X → Type 0
Split {X} P u = (x : List X) × (y : List X) × (u ≡ x ++ y) × P x y

no_parts : {X : Type 0} (P : List X → List X → Type 0) (x y : List X) → [] ≡ x ++ y → P x y → P [] []
no_parts P [] y e h = subst (λ z. P [] z) (sym e) h
no_parts P (c ∷ x) y e h = cc e

pub split : {X : Type 0} (P : List X → List X → Type 0) → ((x y : List X) → Told (P x y)) → (u : List X) → Told (Split P u)
split P told [] = like (λ p. ([], [], refl, p)) (λ h. no_parts P h.0 h.1 h.2 h.3) (told [] [])
split {X = X} P told (c ∷ u) =
    like
    (λ h. elim h [ inl p ↦ ([], c ∷ u, refl, p) | inr q ↦ (c ∷ q.0, q.1, ap (λ v. c ∷ v) q.2, q.3) ])
    (λ h. parts h.0 h.1 h.2 h.3)
    (either (told [] (c ∷ u)) (split (λ x y. P (c ∷ x) y) (λ x y. told (c ∷ x) y) u))
  where
    parts : (x y : List X) → c ∷ u ≡ x ++ y → P x y → P [] (c ∷ u) ⊎ Split (λ x y. P (c ∷ x) y) u
    parts [] y e p = inl (subst (λ z. P [] z) (sym e) p)
    parts (d ∷ x) y e p =
        let first : d ≡ c = cc e in
        let rest : u ≡ x ++ y = cc e in
        inr (x, y, rest, subst (λ z. P (z ∷ x) y) first p)

-- each element of a list
pub all : {X : Type 0} (P : X → Type 0) → ((x : X) → Told (P x)) → (xs : List X) → Told (All P xs)
all P told [] = inl (All-nil P)
all P told (x ∷ xs) =
    like (λ h. All-cons P x xs h.0 h.1) (λ h. (All-head P x xs h, All-tail P x xs h)) (both (told x) (all P told xs))

-- some element of a list
pub some : {X : Type 0} (P : X → Type 0) → ((x : X) → Told (P x)) → (xs : List X) → Told (Any P xs)
some P told [] = inr (λ h. let below = h.2 in omega (arith, below))
some {X = X} P told (x ∷ xs) = like to (λ h. from h.0 h.1 h.2 h.3 h.4) (either (told x) (some P told xs))
  where
    to : P x ⊎ Any P xs → Any P (x ∷ xs)
    to (inl p) = (0, x, omega arith, refl, p)
    to (inr (k, y, below, is, p)) = (suc k, y, omega (arith, below), is, p)

    from : (k : ℕ) (y : X) → k < length (x ∷ xs) → get_or (x ∷ xs) k y ≡ y → P y → P x ⊎ Any P xs
    from zero y below is p = inl (subst P (sym is) p)
    from (suc k) y below is p = inr (k, y, omega (arith, below), is, p)

-- one that is the same
pub among : {X : Type 0} → ((a b : X) → Told (a ≡ b)) → (xs : List X) (x : X) → Told (Contains xs x)
among same [] x = inr (λ h. let below = h.1 in omega (arith, below))
among {X = X} same (y ∷ ys) x = like to (λ h. from h.0 h.1 h.2) (either (same y x) (among same ys x))
  where
    to : (y ≡ x) ⊎ Contains ys x → Contains (y ∷ ys) x
    to (inl e) = (0, omega arith, e)
    to (inr (k, below, is)) = (suc k, omega (arith, below), is)

    from : (k : ℕ) → k < length (y ∷ ys) → get_or (y ∷ ys) k x ≡ x → (y ≡ x) ⊎ Contains ys x
    from zero below is = inl is
    from (suc k) below is = inr (k, omega (arith, below), is)
