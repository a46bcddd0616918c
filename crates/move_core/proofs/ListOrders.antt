-- Lists compared item by item: where all items before are tied, the next two or the lengths decide.
use borrow.Author.Count.{below_more}
use Rattle.std.proofs.Common.{◌≡◌, ◌≢◌, ℕ, zero, suc, ◌+◌, ◌<◌, ◌≤◌, List, [], ◌∷◌, ◌++◌, length, take, slice_get, add-one, Some, refl, sym, ap, ◌∙◌, arith}
use Rattle.std.specs.declared.cmp.Ordering.{Ordering}
use Rattle.std.specs.declared.cmp.Ordering.TheVariants.{Less, Equal, Greater}
use Rattle.std.specs.Cmp.{nat_cmp_is}
use Rattle.std.specs.Cmp.Lexicographic.{slice_cmp}
use Rattle.std.specs.Ordering.{MatchOrdering, nat_cmp, ordering_then}

-- the items at all indexes below n are tied
abbrev pub AreTied : {A : Type 0} → (A → A → Ordering) → List A → List A → ℕ → Type 0
AreTied {A = A} R xs ys n = (k : ℕ) → k < n → (x y : A) → slice_get xs k ≡ Some x → slice_get ys k ≡ Some y → R x y ≡ Equal

then_first : (o r : Ordering) → o ≢ Equal → ordering_then o r ≡ o
then_first Less r other = refl
then_first Equal r other = absurd (other refl)
then_first Greater r other = refl

same_Some : {A : Type 0} (x y : A) → Some x ≡ Some y → x ≡ y
same_Some x y e = cc

module _ {A : Type 0} (R : A → A → Ordering) where
  same_order : (a b x y : A) → Some a ≡ Some x → Some b ≡ Some y → R a b ≡ R x y
  same_order a b x y left right = λ i. R (same_Some a x left i) (same_Some b y right i)

  first_tied : (x y : A) (xs ys : List A) → R x y ≡ Equal → slice_cmp R (x ∷ xs) (y ∷ ys) ≡ slice_cmp R xs ys
  first_tied x y xs ys tied = ap (λ o. ordering_then o (slice_cmp R xs ys)) tied

  pub decided_at : (xs ys : List A) (n : ℕ) (x y : A) (o : Ordering) → AreTied R xs ys n → slice_get xs n ≡ Some x → slice_get ys n ≡ Some y → o ≡ R x y → o ≢ Equal → o ≡ slice_cmp R xs ys
  decided_at [] ys n x y o tied left right is other = absurd cc
  decided_at (a ∷ xs) [] n x y o tied left right is other = absurd cc
  decided_at (a ∷ xs) (b ∷ ys) zero x y o tied left right is other =
      let here : R a b ≡ o = same_order a b x y left right ∙ sym is in
      sym (ap (λ p. ordering_then p (slice_cmp R xs ys)) here ∙ then_first o _ other)
  decided_at (a ∷ xs) (b ∷ ys) (suc n) x y o tied left right is other =
      let rest = decided_at xs ys n x y o (λ k below v w first second. tied (suc k) (omega arith) v w first second) left right is other in
      rest ∙ sym (first_tied a b xs ys (tied 0 (omega arith) a b refl refl))

  one_more : (o : Ordering) (a b : ℕ) → MatchOrdering o (a < b) (a ≡ b) (b < a) → MatchOrdering o (suc a < suc b) (suc a ≡ suc b) (suc b < suc a)
  one_more Less a b is = omega arith
  one_more Equal a b is = ap suc is
  one_more Greater a b is = omega arith

  carried : (o p : Ordering) (a b : ℕ) → p ≡ o → MatchOrdering o (a < b) (a ≡ b) (b < a) → MatchOrdering p (a < b) (a ≡ b) (b < a)
  carried o p a b same is = rw same is

  by_lengths : (xs ys : List A) (n : ℕ) → AreTied R xs ys n → (n < length xs → length ys ≤ n) → MatchOrdering (slice_cmp R xs ys) (length xs < length ys) (length xs ≡ length ys) (length ys < length xs)
  by_lengths [] [] n tied ended = refl
  by_lengths [] (y ∷ ys) n tied ended = omega arith
  by_lengths (x ∷ xs) [] n tied ended = omega arith
  by_lengths (x ∷ xs) (y ∷ ys) zero tied ended = let no = ended (omega arith) in absurd (omega arith)
  by_lengths (x ∷ xs) (y ∷ ys) (suc n) tied ended =
      let rest = by_lengths xs ys n (λ k below v w first second. tied (suc k) (omega arith) v w first second) (λ more. let long = ended (omega arith) in omega arith) in
      carried (slice_cmp R xs ys) _ (suc (length xs)) (suc (length ys)) (first_tied x y xs ys (tied 0 (omega arith) x y refl refl)) (one_more _ (length xs) (length ys) rest)

  pub decided_by_lengths : (xs ys : List A) (n : ℕ) → AreTied R xs ys n → (n < length xs → length ys ≤ n) → nat_cmp (length xs) (length ys) ≡ slice_cmp R xs ys
  decided_by_lengths xs ys n tied ended = sym (nat_cmp_is (length xs) (length ys) (slice_cmp R xs ys) (by_lengths xs ys n tied ended))

  -- one more pair of items is tied
  pub more_tied : (xs ys : List A) (n : ℕ) → AreTied R xs ys n → ((x y : A) → slice_get xs n ≡ Some x → slice_get ys n ≡ Some y → R x y ≡ Equal) → AreTied R xs ys (n + 1)
  more_tied xs ys n tied here =
      below_more (λ k. (x y : A) → slice_get xs k ≡ Some x → slice_get ys k ≡ Some y → R x y ≡ Equal) n tied here

take_at : {A : Type 0} (xs : List A) (i : ℕ) (x : A) → slice_get xs i ≡ Some x → take (suc i) xs ≡ take i xs ++ x ∷ []
take_at [] i x is = absurd cc
take_at (y ∷ xs) zero x is = let here : y ≡ x = same_Some y x is in ap (λ z. z ∷ []) here
take_at (y ∷ xs) (suc i) x is = ap (λ zs. y ∷ zs) (take_at xs i x is)

-- one more item
pub take_one_more : {A : Type 0} (xs : List A) (i : ℕ) (x : A) → slice_get xs i ≡ Some x → take (i + 1) xs ≡ take i xs ++ x ∷ []
take_one_more xs i x is = rw add-one (take_at xs i x is)
