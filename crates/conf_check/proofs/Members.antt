-- What is in a list that others make.
use Rattle.std.proofs.Common.{◌≡◌, ◌⊎◌, ℕ, zero, suc, Bool, true, false, cond, List, [], ◌∷◌, ◌++◌, map, filter, Some, slice_get, refl, sym, subst, inl, inr}
use Rattle.std.specs.List.{find as find_first, flat_map}

some_same : {A : Type 0} (x y : A) → Some x ≡ Some y → x ≡ y
some_same x y e = cc

abbrev pub In : {A : Type 0} → A → List A → Type 0
In x [] = ⊥
In x (y ∷ ys) = (x ≡ y) ⊎ In x ys

pub slice_in : {A : Type 0} (xs : List A) (i : ℕ) (x : A) → slice_get xs i ≡ Some x → In x xs
slice_in [] i x at = cc
slice_in (y ∷ xs) zero x at = inl (sym (some_same y x at))
slice_in (y ∷ xs) (suc i) x at = inr (slice_in xs i x at)

found_by : {A : Type 0} (t : A → Bool) (y : A) (xs : List A) (x : A) (c : Bool) → t y ≡ c → cond c (Some y) (find_first t xs) ≡ Some x
    → (find_first t xs ≡ Some x → In x xs × (t x ≡ true)) → In x (y ∷ xs) × (t x ≡ true)
found_by t y xs x true is e more = let same : y ≡ x = some_same y x e in (inl (sym same), subst (λ z. t z ≡ true) same is)
found_by t y xs x false is e more = let m = more e in (inr m.0, m.1)

pub find_in : {A : Type 0} (t : A → Bool) (xs : List A) (x : A) → find_first t xs ≡ Some x → In x xs × (t x ≡ true)
find_in t [] x e = cc
find_in t (y ∷ xs) x e = found_by t y xs x (t y) refl e (find_in t xs x)

pub append_in : {A : Type 0} (xs ys : List A) (x : A) → In x (xs ++ ys) → In x xs ⊎ In x ys
append_in [] ys x h = inr h
append_in (y ∷ xs) ys x (inl e) = inl (inl e)
append_in (y ∷ xs) ys x (inr h) = elim (append_in xs ys x h) [ inl l ↦ inl (inr l) | inr r ↦ inr r ]

pub map_in : {A B : Type 0} (f : A → B) (xs : List A) (y : B) → In y (map f xs) → (x : A) × In x xs × (y ≡ f x)
map_in f [] y h = absurd h
map_in f (x ∷ xs) y (inl e) = (x, inl refl, e)
map_in f (x ∷ xs) y (inr h) = let m = map_in f xs y h in (m.0, inr m.1, m.2)

pub flat_in : {A B : Type 0} (f : A → List B) (xs : List A) (y : B) → In y (flat_map f xs) → (x : A) × In x xs × In y (f x)
flat_in f [] y h = absurd h
flat_in f (x ∷ xs) y h =
    elim (append_in (f x) (flat_map f xs) y h) [
      | inl l ↦ (x, inl refl, l)
      | inr r ↦ let m = flat_in f xs y r in (m.0, inr m.1, m.2)
    ]

kept_in : {A : Type 0} (c : Bool) (y : A) (xs ys : List A) (x : A) → (In x xs → In x ys) → In x (cond c (y ∷ xs) xs) → In x (y ∷ ys)
kept_in true y xs ys x more (inl e) = inl e
kept_in true y xs ys x more (inr h) = inr (more h)
kept_in false y xs ys x more h = inr (more h)

pub filter_in : {A : Type 0} (t : A → Bool) (xs : List A) (x : A) → In x (filter t xs) → In x xs
filter_in t [] x h = h
filter_in t (y ∷ xs) x h = kept_in (t y) y (filter t xs) xs x (filter_in t xs x) h

in_left : {A : Type 0} (xs ys : List A) (x : A) → In x xs → In x (xs ++ ys)
in_left [] ys x h = absurd h
in_left (y ∷ xs) ys x (inl e) = inl e
in_left (y ∷ xs) ys x (inr h) = inr (in_left xs ys x h)

in_right : {A : Type 0} (xs ys : List A) (x : A) → In x ys → In x (xs ++ ys)
in_right [] ys x h = h
in_right (y ∷ xs) ys x h = inr (in_right xs ys x h)

pub in_flat : {A B : Type 0} (f : A → List B) (xs : List A) (x : A) (y : B) → In x xs → In y (f x) → In y (flat_map f xs)
in_flat f [] x y h at = absurd h
in_flat f (z ∷ xs) x y (inl e) at = in_left (f z) (flat_map f xs) y (subst (λ w. In y (f w)) e at)
in_flat f (z ∷ xs) x y (inr h) at = in_right (f z) (flat_map f xs) y (in_flat f xs x y h at)
