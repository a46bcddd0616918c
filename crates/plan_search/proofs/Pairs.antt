-- Lists of which all pairs are related.
use Rattle.std.proofs.Common.{◌≡◌, ◌⊎◌, inl, inr, suc, List, [], ◌∷◌, ◌++◌, subst, arith}
use Rattle.std.specs.List.{AllPairs, Contains}
use Rattle.std.proofs.lemmas.List.Elements.{Contains-append_right}
use Rattle.plan_search.proofs.Members.{no_member, member_cases}

module _ {A : Type 0} (R : A → A → Type 0) where
  -- so are those of the rest
  pub pairs_tail : (x : A) (xs : List A) → AllPairs R (x ∷ xs) → AllPairs R xs
  pairs_tail x xs pairs i j d lt within = pairs (suc i) (suc j) d (omega (arith, lt)) (omega (arith, within))

  -- the first item is related to each later one
  pub pairs_first : (x : A) (xs : List A) → AllPairs R (x ∷ xs) → (y : A) → Contains xs y → R x y
  pairs_first x xs pairs y h =
      subst (R x) h.2 (pairs 0 (suc h.0) y (omega arith) (omega (arith, h.1)))

  -- an item before is related to each item after
  pub pairs_across : (xs ys : List A) → AllPairs R (xs ++ ys) → (x y : A) → Contains xs x → Contains ys y → R x y
  pairs_across [] ys pairs x y hx hy = absurd (no_member x hx)
  pairs_across (z ∷ xs) ys pairs x y hx hy =
      by (pairs_across xs ys (pairs_tail z (xs ++ ys) pairs) x y) (member_cases z xs x hx)
    where
      by : (Contains xs x → Contains ys y → R x y) → (z ≡ x) ⊎ Contains xs x → R x y
      by later (inl e) =
          subst (λ w. R w y) e (pairs_first z (xs ++ ys) pairs y (Contains-append_right xs ys y hy))
      by later (inr h) = later h hy

  -- nothing is related in no list
  pub pairs_none : AllPairs R []
  pairs_none i j d lt within = absurd (omega (arith, within))

  -- nor in a list of one item
  pub pairs_one : (x : A) → AllPairs R (x ∷ [])
  pairs_one x i j d lt within = absurd (omega (arith, lt, within))
