-- Statements that are the same by all that they are.
use Rattle.std.proofs.Common.{◌≡◌, ◌≢◌, ◌<◌, ◌≤◌, ◌+◌, ◌==◌, ◌&&◌, ℕ, zero, suc, Bool, true, false, List, [], ◌∷◌, map, length, get_or, Option, Some, None, refl, ap, ◌∙◌, arith}
use Rattle.std.specs.Str.{bytes_eq}
use Rattle.std.proofs.lemmas.Bool.Decides.{Decides-eqb}
use Rattle.std.proofs.lemmas.Slice.Eq.{bytes_eq-Decides}
use Rattle.yang_text.specs.Declarations.{Declaration, declare, Block, no_more, more, block_of, weight, block_weight, total_weight}
use Rattle.yang_values.specs.Sameness.{same_argument, same_declaration, same_block}

both : (a b : Bool) → (a && b) ≡ true → (a ≡ true) × (b ≡ true)
both true b h = (refl, h)
both false b h = absurd (grind arith)

argument-is : (a b : Option (List ℕ)) → same_argument a b ≡ true → a ≡ b
argument-is None None h = refl
argument-is None (Some s) h = absurd (grind arith)
argument-is (Some s) None h = absurd (grind arith)
argument-is (Some s) (Some t) h = ap Some ((bytes_eq-Decides s t).0 h)

mutual
  -- what is the same is one statement
  pub declaration-is : (d e : Declaration) → same_declaration d e ≡ true → d ≡ e
  declaration-is (declare k a l s e b) (declare k' a' l' s' e' b') h =
      let h1 = both (bytes_eq k k') _ h in
      let h2 = both (same_argument a a') _ h1.1 in
      let h3 = both (l == l') _ h2.1 in
      let h4 = both (s == s') _ h3.1 in
      let h5 = both (e == e') _ h4.1 in
      λ i. declare ((bytes_eq-Decides k k').0 h1.0 i) (argument-is a a' h2.0 i) ((Decides-eqb l l').0 h3.0 i) ((Decides-eqb s s').0 h4.0 i) ((Decides-eqb e e').0 h5.0 i) (block-is b b' h5.1 i)

  block-is : (b c : Block) → same_block b c ≡ true → b ≡ c
  block-is no_more no_more h = refl
  block-is no_more (more d b) h = absurd (grind arith)
  block-is (more d b) no_more h = absurd (grind arith)
  block-is (more d b) (more e c) h =
      let p = both (same_declaration d e) _ h in
      λ i. more (declaration-is d e p.0 i) (block-is b c p.1 i)

and-true : (a b : Bool) → a ≡ true → b ≡ true → (a && b) ≡ true
and-true true b p q = q
and-true false b p q = absurd (grind arith)

argument-same : (a : Option (List ℕ)) → same_argument a a ≡ true
argument-same None = refl
argument-same (Some s) = (bytes_eq-Decides s s).1 refl

mutual
  -- and each is the same as itself
  pub declaration-same : (d : Declaration) → same_declaration d d ≡ true
  declaration-same (declare k a l s e b) =
      and-true _ _ ((bytes_eq-Decides k k).1 refl) (and-true _ _ (argument-same a) (and-true _ _ ((Decides-eqb l l).1 refl) (and-true _ _ ((Decides-eqb s s).1 refl) (and-true _ _ ((Decides-eqb e e).1 refl) (block-same b)))))

  block-same : (b : Block) → same_block b b ≡ true
  block-same no_more = refl
  block-same (more d b) = and-true _ _ (declaration-same d) (block-same b)

pub lengths-differ : (xs ys : List Declaration) → length xs ≢ length ys → same_block (block_of xs) (block_of ys) ≡ false
lengths-differ [] [] h = absurd (h refl)
lengths-differ [] (y ∷ ys) h = refl
lengths-differ (x ∷ xs) [] h = refl
lengths-differ (x ∷ xs) (y ∷ ys) h = ap (λ b. same_declaration x y && b) (lengths-differ xs ys (λ e. h (ap suc e))) ∙ falsely (same_declaration x y)
  where
    falsely : (b : Bool) → (b && false) ≡ false
    falsely true = refl
    falsely false = refl

weight_at : {W : Type 0} (f : W → Declaration) (ws : List W) (k : ℕ) (w : W) → k < length ws → w ≡ get_or ws k w → weight (f w) ≤ total_weight (map f ws)
weight_at f [] k w below is = absurd (omega arith)
weight_at f (u ∷ ws) zero w below is = rw is (omega arith)
weight_at f (u ∷ ws) (suc k) w below is = omega (arith, weight_at f ws k w (omega arith) is)

-- a statement weighs no more than its list
pub member_weight : {W : Type 0} (f : W → Declaration) (ws : List W) (ds : List Declaration) (k : ℕ) (w : W) → map f ws ≡ ds → k < length ws → w ≡ get_or ws k w → weight (f w) ≤ total_weight ds
member_weight f ws ds k w e below is = rw (← e) (weight_at f ws k w below is)

pub length-map : {X Y : Type 0} (f : X → Y) (xs : List X) → length (map f xs) ≡ length xs
length-map f [] = refl
length-map f (x ∷ xs) = ap suc (length-map f xs)

pub block_weighs : (ds : List Declaration) → block_weight (block_of ds) ≡ total_weight ds
block_weighs [] = refl
block_weighs (d ∷ ds) = ap (λ n. weight d + n) (block_weighs ds)
