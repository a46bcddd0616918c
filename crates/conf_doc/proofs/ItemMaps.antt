-- Functions of lists seen through a function of each item.
use Rattle.std.proofs.Common.{◌≡◌, ℕ, suc, Bool, ◌&&◌, List, [], ◌∷◌, ◌++◌, map, flat_map, length, Ordering, refl, ap}
use Rattle.std.specs.Cmp.Lexicographic.{pointwise, slice_cmp}
use Rattle.std.specs.List.{AllZip}
use Rattle.std.specs.declared.alloc.Global.{Global}
use Rattle.std.specs.declared.rc.Rc.{Rc}
use Rattle.conf_doc.specs.Order.{pair_eq, pairs_eq, pair_cmp, pairs_cmp, pairs_fed}
use Rattle.conf_doc.specs.Shared.{pair_of, pairs_of}
use Rattle.std.specs.Ordering.{ordering_then}
use Rattle.std.specs.Hash as fed
use Rattle.std.specs.Hash.{HashWrites}

module _ {A B : Type 0} (f : A → B) where
  pointwise-map : (E : B → B → Bool) (xs ys : List A) → pointwise (λ x y. E (f x) (f y)) xs ys ≡ pointwise E (map f xs) (map f ys)
  pointwise-map E [] [] = refl
  pointwise-map E [] (y ∷ ys) = refl
  pointwise-map E (x ∷ xs) [] = refl
  pointwise-map E (x ∷ xs) (y ∷ ys) = ap (λ b. E (f x) (f y) && b) (pointwise-map E xs ys)

  slice_cmp-map : (R : B → B → Ordering) (xs ys : List A) → slice_cmp (λ x y. R (f x) (f y)) xs ys ≡ slice_cmp R (map f xs) (map f ys)
  slice_cmp-map R [] [] = refl
  slice_cmp-map R [] (y ∷ ys) = refl
  slice_cmp-map R (x ∷ xs) [] = refl
  slice_cmp-map R (x ∷ xs) (y ∷ ys) = ap (λ c. ordering_then (R (f x) (f y)) c) (slice_cmp-map R xs ys)

  flat_map-map : (F : B → HashWrites) (xs : List A) → flat_map (λ x. F (f x)) xs ≡ flat_map F (map f xs)
  flat_map-map F [] = refl
  flat_map-map F (x ∷ xs) = ap (λ ws. F (f x) ++ ws) (flat_map-map F xs)

  same_length : (xs : List A) → length xs ≡ length (map f xs)
  same_length [] = refl
  same_length (x ∷ xs) = ap suc (same_length xs)

  slice_fed-map : (F : B → HashWrites) (xs : List A) → fed.slice (λ x. F (f x)) xs ≡ fed.slice F (map f xs)
  slice_fed-map F xs = λ i. fed.usize (same_length xs i) ++ flat_map-map F xs i

-- shared pairs compare and hash as the pairs do
module _ {A : Type 0} where
  pub eq_shared : (E : A → A → Bool) (xs ys : List (Rc (List ℕ × A) Global)) → pointwise (λ x y. pair_eq E x.value y.value) xs ys ≡ pairs_eq E (pairs_of xs) (pairs_of ys)
  eq_shared E xs ys = pointwise-map pair_of (pair_eq E) xs ys

  pub cmp_shared : (R : A → A → Ordering) (xs ys : List (Rc (List ℕ × A) Global)) → slice_cmp (λ x y. pair_cmp R x.value y.value) xs ys ≡ pairs_cmp R (pairs_of xs) (pairs_of ys)
  cmp_shared R xs ys = slice_cmp-map pair_of (pair_cmp R) xs ys

  pub fed_shared : (F : A → HashWrites) (xs : List (Rc (List ℕ × A) Global)) → fed.slice (λ x. fed.str x.value.0 ++ F x.value.1) xs ≡ pairs_fed F (pairs_of xs)
  fed_shared F xs = slice_fed-map pair_of (λ p. fed.str p.0 ++ F p.1) xs

-- copies with the same values are the same list of values
pub clones-map : {A B : Type 0} (f : A → B) (xs ys : List A) → AllZip (λ x y. f y ≡ f x) xs ys → map f ys ≡ map f xs
clones-map f [] [] same = refl
clones-map f [] (y ∷ ys) same = absurd same
clones-map f (x ∷ xs) [] same = absurd same
clones-map f (x ∷ xs) (y ∷ ys) same = λ i. same.0 i ∷ clones-map f xs ys same.1 i
