-- What each element of a list gives, one element after another.
use Rattle.std.proofs.Common.{◌≡◌, ◌≢◌, ◌<◌, ◌≤◌, ◌+◌, ℕ, zero, suc, List, [], ◌∷◌, ◌++◌, map, length, take, get_or, Option, Some, None, refl, ap, ◌∙◌, arith}
use Rattle.std.proofs.Math.Seq.{take-length}
use Rattle.std.proofs.lemmas.List.{take_more}
use Rattle.yang_types.specs.declared.types.Bounds.{Bounds}
use Rattle.yang_values.specs.Parts.{with_next, all_given, part_of}

some_is : {X : Type 0} (x y : X) → Some x ≡ Some y → x ≡ y
some_is x y e = cc

push_step : {Y : Type 0} (o : Option Y) (p q : Option (List Y)) (ys : List Y) (y : Y)
    → with_next o p ≡ Some ys → ((ws : List Y) → p ≡ Some ws → q ≡ Some (ws ++ y ∷ [])) → with_next o q ≡ Some (ys ++ y ∷ [])
push_step None p q ys y before then = cc
push_step (Some w) None q ys y before then = cc
push_step (Some w) (Some ws) q ys y before then =
    ap (with_next (Some w)) (then ws refl)
    ∙ ap (λ vs. Some (vs ++ y ∷ [])) (some_is (w ∷ ws) ys before)

all_given-push : {X Y : Type 0} (f : X → Option Y) (xs : List X) (x : X) (ys : List Y) (y : Y)
    → all_given f xs ≡ Some ys → f x ≡ Some y → all_given f (xs ++ x ∷ []) ≡ Some (ys ++ y ∷ [])
all_given-push f [] x ys y before here = ap (λ o. with_next o (Some [])) here ∙ ap (λ zs. Some (zs ++ y ∷ [])) (some_is [] ys before)
all_given-push f (z ∷ xs) x ys y before here =
    push_step (f z) (all_given f xs) (all_given f (xs ++ x ∷ [])) ys y before (λ ws is. all_given-push f xs x ws y is here)

-- one element more
pub all_given-next : {X Y : Type 0} (f : X → Option Y) (xs : List X) (i : ℕ) (d : X) (ys : List Y) (y : Y) → i < length xs
    → all_given f (take i xs) ≡ Some ys → f (get_or xs i d) ≡ Some y → all_given f (take (i + 1) xs) ≡ Some (ys ++ y ∷ [])
all_given-next f xs i d ys y within before here = ap (all_given f) (take_more xs i d within) ∙ all_given-push f (take i xs) (get_or xs i d) ys y before here

with_none : {X : Type 0} (o : Option X) → with_next o None ≡ None
with_none None = refl
with_none (Some x) = refl

-- an element that gives nothing
pub all_given-none : {X Y : Type 0} (f : X → Option Y) (xs : List X) (i : ℕ) (d : X) → i < length xs → f (get_or xs i d) ≡ None → all_given f xs ≡ None
all_given-none f [] i d within none = absurd (omega arith)
all_given-none f (x ∷ xs) zero d within none = ap (λ o. with_next o (all_given f xs)) none
all_given-none f (x ∷ xs) (suc i) d within none = ap (with_next (f x)) (all_given-none f xs i d (omega arith) none) ∙ with_none (f x)

pub all_given-map : {W X Y : Type 0} (f : X → Option Y) (g : W → X) (ws : List W) → all_given f (map g ws) ≡ all_given (λ w. f (g w)) ws
all_given-map f g [] = refl
all_given-map f g (w ∷ ws) = ap (with_next (f (g w))) (all_given-map f g ws)

-- neither one piece nor three
pub no_part : {W : Type 0} (values : List Bounds) (g : W → List ℕ) (ws : List W) → length ws ≢ 1 → length ws ≢ 3 → None ≡ part_of values (map g ws)
no_part values g [] one three = refl
no_part values g (a ∷ []) one three = absurd (one refl)
no_part values g (a ∷ b ∷ []) one three = refl
no_part values g (a ∷ b ∷ c ∷ []) one three = absurd (three refl)
no_part values g (a ∷ b ∷ c ∷ d ∷ ws) one three = refl

-- what a loop has gone over at its end
pub take_end : {X : Type 0} (i : ℕ) (xs : List X) → length xs ≤ i → i ≤ length xs → take i xs ≡ xs
take_end i xs past within = ap (λ n. take n xs) (omega arith) ∙ take-length xs
