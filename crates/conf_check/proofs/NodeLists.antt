-- Nodes in lists: one at most, those of a level, and counted ones.
use Rattle.std.proofs.Common.{◌≡◌, ◌+◌, ◌<◌, ◌==◌, cond, ℕ, zero, suc, List, Option, Some, None, map, length, slice_get, refl, sym, ap, ◌∙◌, arith, add-one}
use Rattle.std.specs.Option.{option_to_list}
use Rattle.conf_check.specs.ConfigTree.{counted_from}

-- one node at most
pub only_first : {A : Type 0} (o : Option A) → slice_get (option_to_list o) 0 ≡ o
only_first None = refl
only_first (Some x) = refl

pub none_behind : {A : Type 0} (o : Option A) (i : ℕ) → slice_get (option_to_list o) (i + 1) ≡ None
none_behind None i = refl
none_behind (Some x) i = rw add-one refl

pub first_of_one : {N : Type 0} (o : Option N) (xs ys : List N) → option_to_list o ≡ xs → ys ≡ xs → o ≡ slice_get ys 0
first_of_one o xs ys e is = sym (only_first o) ∙ ap (λ zs. slice_get zs 0) (e ∙ sym is)

-- what is picked by a level
abbrev pick : {A : Type 0} → ℕ → A → A → A → A → A → A
pick l a b c d e = cond (l == 0) a (cond (l == 1) b (cond (l == 2) c (cond (l == 3) d e)))

pub level_2 : {A : Type 0} (l : ℕ) (a b c d e : A) → l ≡ 2 → pick l a b c d e ≡ c
level_2 l a b c d e is = ap (λ k. pick k a b c d e) is

-- counted places
pub counted_length : {A : Type 0} (f : ℕ → A) (a n : ℕ) → length (map f (counted_from a n)) ≡ n
counted_length f a zero = refl
counted_length f a (suc n) = ap suc (counted_length f (suc a) n)

pub counted_at : {A : Type 0} (f : ℕ → A) (a n i : ℕ) → i < n → slice_get (map f (counted_from a n)) i ≡ Some (f (a + i))
counted_at f a zero i lt = absurd (omega arith)
counted_at f a (suc n) zero lt = let e : a ≡ a + 0 = omega arith in ap (λ k. Some (f k)) e
counted_at f a (suc n) (suc i) lt =
    let e : suc a + i ≡ a + suc i = omega arith in
    counted_at f (suc a) n i (omega arith) ∙ ap (λ k. Some (f k)) e
