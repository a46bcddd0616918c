-- Members of lists.
use Rattle.std.proofs.Common.{◌≡◌, ◌⊎◌, inl, inr, List, [], ◌∷◌, map, subst, arith}
use Rattle.std.specs.List.{Contains}
use Rattle.std.proofs.lemmas.List.Elements.{Contains-append_left, Contains-append_right, Contains-append_cases, Contains-push, Contains-push_cases}

module _ {A : Type 0} where
  -- an empty list has no member
  pub no_member : (x : A) → Contains [] x → ⊥
  no_member x h = absurd (omega (arith, h.1))

  -- the first item is a member
  pub first_member : (x : A) (xs : List A) → Contains (x ∷ xs) x
  first_member x xs = Contains-append_left (x ∷ []) xs x (Contains-push [] x)

  -- a member of the rest is one
  pub later_member : (y : A) (xs : List A) (x : A) → Contains xs x → Contains (y ∷ xs) x
  later_member y xs x h = Contains-append_right (y ∷ []) xs x h

  -- a member is the first item or one of the rest
  pub member_cases : (y : A) (xs : List A) (x : A) → Contains (y ∷ xs) x → (y ≡ x) ⊎ Contains xs x
  member_cases y xs x h = by (Contains-append_cases (y ∷ []) xs x h)
    where
      by : Contains (y ∷ []) x ⊎ Contains xs x → (y ≡ x) ⊎ Contains xs x
      by (inr r) = inr r
      by (inl l) = of (Contains-push_cases [] y x l)
        where
          of : Contains [] x ⊎ (y ≡ x) → (y ≡ x) ⊎ Contains xs x
          of (inl n) = absurd (no_member x n)
          of (inr e) = inl e

-- ---- lists under a function

-- what a member becomes
pub member_map : {A B : Type 0} (f : A → B) (xs : List A) (x : A) → Contains xs x → Contains (map f xs) (f x)
member_map f [] x h = absurd (no_member x h)
member_map {B = B} f (y ∷ xs) x h = by (member_map f xs x) (member_cases y xs x h)
  where
    by : (Contains xs x → Contains (map f xs) (f x)) → (y ≡ x) ⊎ Contains xs x → Contains (f y ∷ map f xs) (f x)
    by rest (inl e) = subst (λ z. Contains (f y ∷ map f xs) (f z)) e (first_member (f y) (map f xs))
    by rest (inr t) = later_member (f y) (map f xs) (f x) (rest t)

-- what a member comes from
pub member_from_map : {A B : Type 0} (f : A → B) (xs : List A) (y : B) → Contains (map f xs) y → (x : A) × Contains xs x × (f x ≡ y)
member_from_map f [] y h = absurd (no_member y h)
member_from_map {A = A} f (x ∷ xs) y h = by (member_from_map f xs y) (member_cases (f x) (map f xs) y h)
  where
    by : (Contains (map f xs) y → (z : A) × Contains xs z × (f z ≡ y)) → (f x ≡ y) ⊎ Contains (map f xs) y
        → (z : A) × Contains (x ∷ xs) z × (f z ≡ y)
    by rest (inl e) = (x, first_member x xs, e)
    by rest (inr t) = let r = rest t in (r.0, later_member x xs r.0 r.1, r.2)
