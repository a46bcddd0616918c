-- Lists whose items are related pairwise, and what holds of all items.
use Rattle.std.proofs.Common.{◌≡◌, suc, Bool, true, false, cond, List, [], ◌∷◌, ◌++◌, length, filter, refl, ap}
use Rattle.std.specs.List.{AllByRecursion as All, AllZip, flat_map}

module _ {A B : Type 0} (R : A → B → Type 0) where
  pub zip_append : (xs us : List A) (ys vs : List B) → AllZip R xs ys → AllZip R us vs → AllZip R (xs ++ us) (ys ++ vs)
  zip_append [] us [] vs all more = more
  zip_append [] us (y ∷ ys) vs all more = absurd all
  zip_append (x ∷ xs) us [] vs all more = absurd all
  zip_append (x ∷ xs) us (y ∷ ys) vs all more = (all.0, zip_append xs us ys vs all.1 more)

  pub zip_length : (xs : List A) (ys : List B) → AllZip R xs ys → length xs ≡ length ys
  zip_length [] [] all = refl
  zip_length [] (y ∷ ys) all = absurd all
  zip_length (x ∷ xs) [] all = absurd all
  zip_length (x ∷ xs) (y ∷ ys) all = ap suc (zip_length xs ys all.1)

  -- what two functions make of related items
  pub zip_each : {C D : Type 0} (S : C → D → Type 0) (f : A → List C) (g : B → List D) → ((x : A) (y : B) → R x y → AllZip S (f x) (g y))
      → (xs : List A) (ys : List B) → AllZip R xs ys → AllZip S (flat_map f xs) (flat_map g ys)
  zip_each S f g go [] [] all = tt
  zip_each S f g go [] (y ∷ ys) all = absurd all
  zip_each S f g go (x ∷ xs) [] all = absurd all
  zip_each S f g go (x ∷ xs) (y ∷ ys) all = appended (f x) (flat_map f xs) (g y) (flat_map g ys) (go x y all.0) (zip_each S f g go xs ys all.1)
    where
      appended : (xs us : List _) (ys vs : List _) → AllZip S xs ys → AllZip S us vs → AllZip S (xs ++ us) (ys ++ vs)
      appended [] us [] vs all more = more
      appended [] us (y ∷ ys) vs all more = absurd all
      appended (x ∷ xs) us [] vs all more = absurd all
      appended (x ∷ xs) us (y ∷ ys) vs all more = (all.0, appended xs us ys vs all.1 more)

  pub same_each : {C : Type 0} (f : A → List C) (g : B → List C) → ((x : A) (y : B) → R x y → f x ≡ g y)
      → (xs : List A) (ys : List B) → AllZip R xs ys → flat_map f xs ≡ flat_map g ys
  same_each f g go [] [] all = refl
  same_each f g go [] (y ∷ ys) all = absurd all
  same_each f g go (x ∷ xs) [] all = absurd all
  same_each f g go (x ∷ xs) (y ∷ ys) all =
      let here = go x y all.0 in
      let more = same_each f g go xs ys all.1 in
      λ i. here i ++ more i

  zip_kept : (b c : Bool) (x : A) (y : B) (xs : List A) (ys : List B) → b ≡ c → R x y → AllZip R xs ys → AllZip R (cond b (x ∷ xs) xs) (cond c (y ∷ ys) ys)
  zip_kept true true x y xs ys e here more = (here, more)
  zip_kept true false x y xs ys e here more = cc
  zip_kept false true x y xs ys e here more = cc
  zip_kept false false x y xs ys e here more = more

  -- tests that agree on related items keep related ones
  pub zip_filter : (t : A → Bool) (u : B → Bool) → ((x : A) (y : B) → R x y → t x ≡ u y)
      → (xs : List A) (ys : List B) → AllZip R xs ys → AllZip R (filter t xs) (filter u ys)
  zip_filter t u go [] [] all = tt
  zip_filter t u go [] (y ∷ ys) all = absurd all
  zip_filter t u go (x ∷ xs) [] all = absurd all
  zip_filter t u go (x ∷ xs) (y ∷ ys) all = zip_kept (t x) (u y) x y (filter t xs) (filter u ys) (go x y all.0) all.0 (zip_filter t u go xs ys all.1)

module _ {A : Type 0} (P : A → Type 0) where
  pub all_left : (xs ys : List A) → All P (xs ++ ys) → All P xs
  all_left [] ys all = tt
  all_left (x ∷ xs) ys all = (all.0, all_left xs ys all.1)

  pub all_right : (xs ys : List A) → All P (xs ++ ys) → All P ys
  all_right [] ys all = all
  all_right (x ∷ xs) ys all = all_right xs ys all.1
