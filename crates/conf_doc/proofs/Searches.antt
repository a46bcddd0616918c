-- Where a search by names ends in a list whose items f shows as pairs.
use Rattle.std.proofs.Common.{◌≡◌, ℕ, zero, suc, ◌<◌, ◌≤◌, true, List, [], ◌∷◌, map, length, get_or, slice_get, Some, Result, Ok, Err, IfOk, IfErr, HoldsAt, Less, Equal, Greater, refl, ap, arith}
use Rattle.std.specs.FinMap.Entries.{below_all}
use Rattle.std.specs.List.{AllWithin}
use Rattle.std.specs.List.Sorted.{IsSearchInRange, IsBinarySearchResult, IsNonDecreasingBy}
use Rattle.std.specs.Ordering.{ordering_index}
use Rattle.std.proofs.lemmas.Bool.{and_parts}
use Rattle.host_core.specs.Names.{name_cmp}
use Rattle.conf_doc.specs.Indexes.{IsAt, IsBetween, IsGap}
use Rattle.conf_doc.specs.Pairs.{IsRising}
use Rattle.conf_doc.proofs.Edits.{index_by, less, same_name, turned}
use Rattle.conf_doc.proofs.Lists.{length-map}

module _ {I A : Type 0} (f : I → List ℕ × A) where
  name_from : (xs : List I) (name : List ℕ) (i : ℕ) → i < length xs → HoldsAt (λ x. name_cmp (f x).0 name ≡ Equal) xs i → slice_get (map (λ p. p.0) (map f xs)) i ≡ Some name
  name_from [] name i within equal = absurd (omega arith)
  name_from (x ∷ xs) name zero within equal = ap Some (same_name _ _ (equal x))
  name_from (x ∷ xs) name (suc i) within equal = name_from xs name i (omega arith) equal

  between_from : (xs : List I) (name : List ℕ) (i : ℕ) → AllWithin (λ x. name_cmp (f x).0 name ≡ Less) xs 0 i → AllWithin (λ x. name_cmp (f x).0 name ≡ Greater) xs i (length xs) → IsBetween (map f xs) name i
  between_from [] name i lesser greater = tt
  between_from (x ∷ xs) name zero lesser greater = turned (f x).0 name Greater (greater 0 x (omega arith) (omega arith))
  between_from (x ∷ xs) name (suc i) lesser greater = (
    turned (f x).0 name Less (lesser 0 x (omega arith) (omega arith)),
    between_from xs name i (λ k d low high. lesser (suc k) d (omega arith) (omega arith)) (λ k d low high. greater (suc k) d (omega arith) (omega arith)),
  )

  below_index : (name : List ℕ) (xs : List I) (j : ℕ) (d : I) → below_all name_cmp name (map f xs) ≡ true → j < length xs → name_cmp name (f (get_or xs j d)).0 ≡ Less
  below_index name [] j d below within = absurd (omega arith)
  below_index name (x ∷ xs) zero d below within = less _ (and_parts _ _ below).0
  below_index name (x ∷ xs) (suc j) d below within = below_index name xs j d (and_parts _ _ below).1 (omega arith)

  searchable : (xs : List I) (name : List ℕ) → IsRising (map f xs) → IsNonDecreasingBy (λ x. ordering_index (name_cmp (f x).0 name)) xs
  searchable [] name rising i j d le lt = absurd (omega arith)
  searchable (x ∷ xs) name rising zero zero d le lt = omega arith
  searchable (x ∷ xs) name rising zero (suc j) d le lt = index_by (f x).0 (f (get_or xs j d)).0 name _ (below_index (f x).0 xs j d (and_parts _ _ rising).0 (omega arith)) refl
  searchable (x ∷ xs) name rising (suc i) zero d le lt = absurd (omega arith)
  searchable (x ∷ xs) name rising (suc i) (suc j) d le lt = searchable xs name (and_parts _ _ rising).1 i j d (omega arith) (omega arith)

  pub searched : (xs : List I) (name : List ℕ) (r : Result ℕ ℕ) → IsRising (map f xs) → IsSearchInRange r (length xs) → IsBinarySearchResult (λ x. name_cmp (f x).0 name) xs r
      → IfOk r (IsAt (map f xs) name) × IfErr r (IsGap (map f xs) name)
  searched xs name (Ok i) rising within equal =
      let inside : i < length (map f xs) = omega (arith, length-map f xs) in
      (record { within = inside; has = name_from xs name i within equal }, tt)
  searched xs name (Err i) rising within parted =
      let split = parted (searchable xs name rising) in
      let inside : i ≤ length (map f xs) = omega (arith, length-map f xs) in
      (tt, record { within = inside; between = between_from xs name i split.0 split.1 })
