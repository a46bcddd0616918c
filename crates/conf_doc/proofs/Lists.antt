-- How a function of each item goes with an edit of the list.
use Rattle.std.proofs.Common.{◌≡◌, ℕ, zero, suc, ◌+◌, ◌<◌, add-one, List, [], ◌∷◌, ◌++◌, map, length, take, take-suc, set, get_or, slice_get, insert, remove, Some, refl, sym, ap, ◌∙◌, append_assoc, arith}

module _ {A B : Type 0} (f : A → B) where
  pub map-set : (xs : List A) (i : ℕ) (x : A) → map f (set xs i x) ≡ set (map f xs) i (f x)
  map-set [] i x = refl
  map-set (y ∷ xs) zero x = refl
  map-set (y ∷ xs) (suc i) x = ap (λ ys. f y ∷ ys) (map-set xs i x)

  pub map-insert : (xs : List A) (i : ℕ) (x : A) → map f (insert xs i x) ≡ insert (map f xs) i (f x)
  map-insert xs zero x = refl
  map-insert [] (suc i) x = refl
  map-insert (y ∷ xs) (suc i) x = ap (λ ys. f y ∷ ys) (map-insert xs i x)

  pub map-remove : (xs : List A) (i : ℕ) → map f (remove xs i) ≡ remove (map f xs) i
  map-remove [] zero = refl
  map-remove [] (suc i) = refl
  map-remove (y ∷ xs) zero = refl
  map-remove (y ∷ xs) (suc i) = ap (λ ys. f y ∷ ys) (map-remove xs i)

  -- the item at a place
  pub slice_get-map : (xs : List A) (i : ℕ) (d : A) → i < length xs → slice_get (map f xs) i ≡ Some (f (get_or xs i d))
  slice_get-map [] i d within = absurd (omega arith)
  slice_get-map (x ∷ xs) zero d within = refl
  slice_get-map (x ∷ xs) (suc i) d within = slice_get-map xs i d (omega arith)

  pub length-map : (xs : List A) → length (map f xs) ≡ length xs
  length-map [] = refl
  length-map (x ∷ xs) = ap suc (length-map xs)

pub map-append : {A B : Type 0} (f : A → B) (xs ys : List A) → map f (xs ++ ys) ≡ map f xs ++ map f ys
map-append f [] ys = refl
map-append f (x ∷ xs) ys = ap (λ zs. f x ∷ zs) (map-append f xs ys)

-- one more pair, and one less to come
pub names_more : {A K V : Type 0} (key : K → List ℕ) (done : List (List ℕ × A)) (now left : List (K × V)) (e : K × V) (a : A) (new : List (List ℕ × A)) (all : List (List ℕ))
    → map (λ m. m.0) done ++ map key (map (λ m. m.0) now) ≡ all → now ≡ e ∷ left → new ≡ done ++ (key e.0, a) ∷ [] → map (λ m. m.0) new ++ map key (map (λ m. m.0) left) ≡ all
names_more key done now left e a new all so_far is pushed =
    ap (λ ms. map (λ m. m.0) ms ++ map key (map (λ m. m.0) left)) pushed
    ∙ ap (λ ms. ms ++ map key (map (λ m. m.0) left)) (map-append (λ m. m.0) done ((key e.0, a) ∷ []))
    ∙ append_assoc (map (λ m. m.0) done) (key e.0 ∷ []) (map key (map (λ m. m.0) left))
    ∙ ap (λ es. map (λ m. m.0) done ++ map key (map (λ m. m.0) es)) (sym is)
    ∙ so_far

pub none_left : {A : Type 0} (xs : List A) (n : ℕ) → n ≡ length xs → n ≡ 0 → xs ≡ []
none_left [] n e z = refl
none_left (x ∷ xs) n e z = absurd (omega arith)

pub map-map : {A B C : Type 0} (g : B → C) (f : A → B) (xs : List A) → map g (map f xs) ≡ map (λ x. g (f x)) xs
map-map g f [] = refl
map-map g f (x ∷ xs) = ap (λ ys. g (f x) ∷ ys) (map-map g f xs)

-- what a walk has passed, and one more
pub take_step : {A : Type 0} (xs : List A) (i : ℕ) (x : A) → i < length xs → x ≡ get_or xs i x → take (i + 1) xs ≡ take i xs ++ x ∷ []
take_step xs i x within is = rw add-one (take-suc xs i x within ∙ ap (λ y. take i xs ++ y ∷ []) (sym is))

take_at : {A : Type 0} (xs : List A) (i : ℕ) (x : A) → slice_get xs i ≡ Some x → take (suc i) xs ≡ take i xs ++ x ∷ []
take_at [] i x is = cc
take_at (y ∷ xs) zero x is = let same : y ≡ x = cc in ap (λ z. z ∷ []) same
take_at (y ∷ xs) (suc i) x is = ap (λ zs. y ∷ zs) (take_at xs i x is)

pub take_more : {A : Type 0} (xs : List A) (i : ℕ) (x : A) → slice_get xs i ≡ Some x → take (i + 1) xs ≡ take i xs ++ x ∷ []
take_more xs i x is = rw add-one (take_at xs i x is)

-- one more of what f makes of a list that g makes another of
pub map_more : {A B C : Type 0} (f : A → C) (g : B → C) (xs new : List A) (a : A) (ys more : List B) (y : B) → map f xs ≡ map g ys → new ≡ xs ++ a ∷ [] → f a ≡ g y → more ≡ ys ++ y ∷ [] → map f new ≡ map g more
map_more f g xs new a ys more y so_far pushed same taken =
    ap (map f) pushed ∙ map-append f xs (a ∷ []) ∙ (λ i. so_far i ++ same i ∷ []) ∙ sym (map-append g ys (y ∷ [])) ∙ ap (map g) (sym taken)

-- one item goes over from those to come to those that came
pub one_moved : {A B : Type 0} (f : A → B) (done new all : List B) (now left : List A) (x : A) → done ++ map f now ≡ all → now ≡ x ∷ left → new ≡ done ++ f x ∷ [] → new ++ map f left ≡ all
one_moved f done new all now left x so_far is pushed =
    ap (λ ys. ys ++ map f left) pushed ∙ append_assoc done (f x ∷ []) (map f left) ∙ ap (λ xs. done ++ map f xs) (sym is) ∙ so_far
