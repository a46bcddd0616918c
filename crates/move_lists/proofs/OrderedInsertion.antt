-- Things put in their order one by one, each once.
use Rattle.std.proofs.Common.{◌≡◌, ◌⊎◌, inl, inr, List, [], ◌∷◌, refl, sym, ap, subst, ◌∙◌, arith}
use Rattle.std.specs.Cmp.{IsTotalOrder}
use Rattle.std.specs.List.{AllPairs, Contains}
use Rattle.std.specs.Ordering.{ordering_reverse}
use Rattle.std.specs.declared.cmp.Ordering.{Ordering}
use Rattle.std.specs.declared.cmp.Ordering.TheVariants.{Less, Equal, Greater}
use Rattle.std.proofs.lemmas.List.Elements.{Contains-get_or}
use Rattle.std.proofs.lemmas.List.Kept.{AllPairs-cons}
use Rattle.move_lists.proofs.Members.{first_member, later_member, member_cases, no_member}

module _ {A : Type 0} (R : A → A → Ordering) (total : IsTotalOrder R) (same : (x y : A) → R x y ≡ Equal → x ≡ y) where
  -- each comes before the later ones
  abbrev pub Rise : List A → Type 0
  Rise [] = Unit {0}
  Rise (x ∷ xs) = ((y : A) → Contains xs y → R x y ≡ Less) × Rise xs

  -- the new list has what the old one has and one thing more
  pub record IsPutIn (x : A) (old new : List A) : Type 0 where
    pub rise : Rise new
    pub here : Contains new x
    pub kept : (y : A) → Contains old y → Contains new y
    pub only : (y : A) → Contains new y → (y ≡ x) ⊎ Contains old y

  alone : (x : A) → IsPutIn x [] (x ∷ [])
  alone x = record {
    rise = (λ y h. absurd (no_member y h), tt);
    here = first_member x [];
    kept = λ y h. absurd (no_member y h);
    only = λ y h. by y (member_cases x [] y h);
  }
    where
      by : (y : A) → (x ≡ y) ⊎ Contains [] y → (y ≡ x) ⊎ Contains [] y
      by y (inl e) = inl (sym e)
      by y (inr h) = inr h

  module _ (x z : A) (zs : List A) (rise : Rise (z ∷ zs)) where
    at_front : R x z ≡ Less → IsPutIn x (z ∷ zs) (x ∷ z ∷ zs)
    at_front e = record {
      rise = (λ y h. less y (member_cases z zs y h), rise);
      here = first_member x (z ∷ zs);
      kept = λ y h. later_member x (z ∷ zs) y h;
      only = λ y h. by y (member_cases x (z ∷ zs) y h);
    }
      where
        less : (y : A) → (z ≡ y) ⊎ Contains zs y → R x y ≡ Less
        less y (inl is) = subst (λ w. R x w ≡ Less) is e
        less y (inr h) = total.trans x z y e (rise.0 y h)

        by : (y : A) → (x ≡ y) ⊎ Contains (z ∷ zs) y → (y ≡ x) ⊎ Contains (z ∷ zs) y
        by y (inl is) = inl (sym is)
        by y (inr h) = inr h

    there_already : R x z ≡ Equal → IsPutIn x (z ∷ zs) (z ∷ zs)
    there_already e = record {
      rise = rise;
      here = subst (Contains (z ∷ zs)) (sym (same x z e)) (first_member z zs);
      kept = λ y h. h;
      only = λ y h. inr h;
    }

    further_on : (new : List A) → R x z ≡ Greater → IsPutIn x zs new → IsPutIn x (z ∷ zs) (z ∷ new)
    further_on new e rest = record {
      rise = (λ y h. less y (rest.only y h), rest.rise);
      here = later_member z new x rest.here;
      kept = λ y h. keep y (member_cases z zs y h);
      only = λ y h. by y (member_cases z new y h);
    }
      where
        less : (y : A) → (y ≡ x) ⊎ Contains zs y → R z y ≡ Less
        less y (inl is) = subst (λ w. R z w ≡ Less) (sym is) (total.antisymm z x ∙ ap ordering_reverse e)
        less y (inr h) = rise.0 y h

        keep : (y : A) → (z ≡ y) ⊎ Contains zs y → Contains (z ∷ new) y
        keep y (inl is) = subst (Contains (z ∷ new)) is (first_member z new)
        keep y (inr h) = later_member z new y (rest.kept y h)

        of_rest : (y : A) → (y ≡ x) ⊎ Contains zs y → (y ≡ x) ⊎ Contains (z ∷ zs) y
        of_rest y (inl is) = inl is
        of_rest y (inr h) = inr (later_member z zs y h)

        by : (y : A) → (z ≡ y) ⊎ Contains new y → (y ≡ x) ⊎ Contains (z ∷ zs) y
        by y (inl is) = inr (subst (Contains (z ∷ zs)) is (first_member z zs))
        by y (inr h) = of_rest y (rest.only y h)

    one_in : (o : Ordering) → R x z ≡ o → (new : List A) × IsPutIn x zs new → (new : List A) × IsPutIn x (z ∷ zs) new
    one_in Less e rest = (x ∷ z ∷ zs, at_front e)
    one_in Equal e rest = (z ∷ zs, there_already e)
    one_in Greater e rest = (z ∷ rest.0, further_on rest.0 e rest.1)

  -- a thing can be put in
  pub put_in : (x : A) (xs : List A) → Rise xs → (new : List A) × IsPutIn x xs new
  put_in x [] rise = (x ∷ [], alone x)
  put_in x (z ∷ zs) rise = one_in x z zs rise (R x z) refl (put_in x zs rise.1)

  -- so at all pairs
  pub all_rise : (xs : List A) → Rise xs → AllPairs (λ x y. R x y ≡ Less) xs
  all_rise [] rise = λ i j d lt within. absurd (omega (arith, within))
  all_rise (x ∷ xs) rise =
      AllPairs-cons (λ y z. R y z ≡ Less) x xs
      (λ k d lt. rise.0 _ (Contains-get_or xs k d lt)) (all_rise xs rise.1)
