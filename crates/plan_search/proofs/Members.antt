-- Members of lists, and how many distinct ones there can be.
use Rattle.std.proofs.Common.{◌≡◌, ◌≢◌, ◌⊎◌, inl, inr, suc, ◌≤◌, List, [], ◌∷◌, ◌++◌, length, sym, ap, subst, ◌∙◌, arith, length-append}
use Rattle.std.specs.List.{AllPairs, Contains}
use Rattle.std.proofs.lemmas.List.Elements.{Contains-append_left, Contains-append_right, Contains-append_cases, Contains-push, Contains-push_cases}

module _ {A : Type 0} where
  -- an empty list has no member
  pub no_member : (x : A) → Contains [] x → ⊥
  no_member x h = absurd (omega (arith, h.1))

  -- the first item is a member
  pub first_member : (x : A) (xs : List A) → Contains (x ∷ xs) x
  first_member x xs = Contains-append_left (x ∷ []) xs x (Contains-push [] x)

  -- a member of the rest is one
  pub later_member : (y : A) (xs : List A) (x : A) → Contains xs x → Contains (y ∷ xs) x
  later_member y xs x h = Contains-append_right (y ∷ []) xs x h

  -- a member is the first item or one of the rest
  pub member_cases : (y : A) (xs : List A) (x : A) → Contains (y ∷ xs) x → (y ≡ x) ⊎ Contains xs x
  member_cases y xs x h = by (Contains-append_cases (y ∷ []) xs x h)
    where
      by : Contains (y ∷ []) x ⊎ Contains xs x → (y ≡ x) ⊎ Contains xs x
      by (inr r) = inr r
      by (inl l) = of (Contains-push_cases [] y x l)
        where
          of : Contains [] x ⊎ (y ≡ x) → (y ≡ x) ⊎ Contains xs x
          of (inl n) = absurd (no_member x n)
          of (inr e) = inl e

  -- a list with a member is what stands before it, the member, and what stands after it
  pub split_at_member : (ys : List A) (x : A) → Contains ys x → (before : List A) × (after : List A) × (ys ≡ before ++ x ∷ after)
  split_at_member [] x h = absurd (no_member x h)
  split_at_member (y ∷ ys) x h = by (split_at_member ys x) (member_cases y ys x h)
    where
      by : (Contains ys x → (before : List A) × (after : List A) × (ys ≡ before ++ x ∷ after))
          → (y ≡ x) ⊎ Contains ys x → (before : List A) × (after : List A) × (y ∷ ys ≡ before ++ x ∷ after)
      by rest (inl e) = ([], ys, ap (λ z. z ∷ ys) e)
      by rest (inr r) = let s = rest r in (y ∷ s.0, s.1, ap (λ zs. y ∷ zs) s.2)

  -- another member stays when one is left out
  other_member : (before after : List A) (x z : A) → x ≢ z → Contains (before ++ x ∷ after) z → Contains (before ++ after) z
  other_member before after x z ne h = by (Contains-append_cases before (x ∷ after) z h)
    where
      by : Contains before z ⊎ Contains (x ∷ after) z → Contains (before ++ after) z
      by (inl l) = Contains-append_left before after z l
      by (inr r) = of (member_cases x after z r)
        where
          of : (x ≡ z) ⊎ Contains after z → Contains (before ++ after) z
          of (inl e) = absurd (ne e)
          of (inr t) = Contains-append_right before after z t

  -- distinct members of a list are no more than it has
  pub distinct_fit : (xs ys : List A) → AllPairs (λ a b. a ≢ b) xs
      → ((x : A) → Contains xs x → Contains ys x) → length xs ≤ length ys
  distinct_fit [] ys apart sub = omega arith
  distinct_fit (x ∷ xs) ys apart sub =
      let s = split_at_member ys x (sub x (first_member x xs)) in
      let rest : length xs ≤ length (s.0 ++ s.1) =
      distinct_fit xs (s.0 ++ s.1) (λ i j d lt l. apart (suc i) (suc j) d (omega arith) (omega arith))
      (λ z h. other_member s.0 s.1 x z (differs z h)
      (subst (λ l. Contains l z) s.2 (sub z (later_member x xs z h)))) in
      let whole : length ys ≡ length (s.0 ++ x ∷ s.1) = ap length s.2 in
      let one = length-append s.0 (x ∷ s.1) in
      let two = length-append s.0 s.1 in
      omega (arith, rest, whole, one, two)
    where
      differs : (z : A) → Contains xs z → x ≢ z
      differs z h e = apart 0 (suc h.0) z (omega arith) (omega (arith, h.1)) (e ∙ sym h.2)

  -- where items can be told apart, it can be told whether one is a member
  pub is_member : ((x y : A) → (x ≡ y) ⊎ (x ≢ y)) → (xs : List A) (x : A) → Contains xs x ⊎ ¬ Contains xs x
  is_member told [] x = inr (λ h. no_member x h)
  is_member told (y ∷ xs) x = by (told y x) (is_member told xs x)
    where
      neither : y ≢ x → ¬ Contains xs x → (y ≡ x) ⊎ Contains xs x → ⊥
      neither ne out (inl e) = ne e
      neither ne out (inr r) = out r

      by : (y ≡ x) ⊎ (y ≢ x) → Contains xs x ⊎ ¬ Contains xs x → Contains (y ∷ xs) x ⊎ ¬ Contains (y ∷ xs) x
      by (inl e) rest = inl (subst (Contains (y ∷ xs)) e (first_member y xs))
      by (inr ne) (inl h) = inl (later_member y xs x h)
      by (inr ne) (inr out) = inr (λ h. neither ne out (member_cases y xs x h))
