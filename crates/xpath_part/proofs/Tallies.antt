-- Counts of what is sought, up to a limit.
use Rattle.std.proofs.Common.{◌≡◌, ℕ, suc, ◌+◌, ◌-◌, ◌<◌, ◌==◌, ◌&&◌, ◌||◌, not, Bool, true, false, cond, min, nat_lt, List, [], ◌∷◌, ◌++◌, length, drop, Some, None, slice_get, refl, sym, ap, ◌∙◌, inl, inr, add-one, add_assoc, zero-add, drop_of_length-le, arith}
use Rattle.std.specs.List.{filter, flat_map, list_any}
use Rattle.std.proofs.lemmas.List.{append-nil}
use Rattle.std.proofs.lemmas.Option.{slice_get_within, get_or_from_slice_get, slice_get_cases}
use Rattle.std.proofs.Math.Seq.{drop-cons}
use Rattle.xpath_part.specs.Expression.{Strides, Predicates}
use Rattle.xpath_part.specs.Nodes.{NodeTree, has_text}
use Rattle.xpath_part.specs.Sought.{how_many, is_sought, sought_below}
use Rattle.xpath_part.specs.Truth.{texts_of_node, walk, passes, compare_numbers}
use Rattle.xpath_part.specs.declared.comparisons.Cmp.{Cmp}
use Rattle.xpath_part.specs.declared.comparisons.Cmp.TheVariants.{Equal, Differ, Less, AtMost, More, AtLeast}
use Rattle.xpath_part.specs.declared.nodes.Node.{Node}
use Rattle.xpath_part.specs.declared.sought.Sought.{Sought}

how_many-append : {X : Type 0} (p : X → Bool) (xs ys : List X) → how_many p (xs ++ ys) ≡ how_many p xs + how_many p ys
how_many-append p [] ys = sym (zero-add _)
how_many-append p (x ∷ xs) ys = ap (λ n. cond (p x) 1 0 + n) (how_many-append p xs ys) ∙ sym (add_assoc (cond (p x) 1 0) (how_many p xs) (how_many p ys))

one_of_more : (n : ℕ) → nat_lt 0 (min 1 (1 + n)) ≡ true
one_of_more n = let one : min 1 (1 + n) ≡ 1 = omega arith in ap (nat_lt 0) one

-- a count up to 1 says whether there is one
pub any_counted : {X : Type 0} (p : X → Bool) (xs : List X) → nat_lt 0 (min 1 (how_many p xs)) ≡ list_any p xs
any_counted p [] = refl
any_counted p (x ∷ xs) = elim (p x) as (λ b. nat_lt 0 (min 1 (cond b 1 0 + how_many p xs)) ≡ (b || list_any p xs)) [
  | true ↦ one_of_more (how_many p xs)
  | false ↦ rw zero-add (any_counted p xs)
]

pub all_counted : {X : Type 0} (xs : List X) → how_many (λ _. true) xs ≡ length xs
all_counted [] = refl
all_counted (x ∷ xs) = omega (arith, all_counted xs)

not_none : (n : ℕ) → (suc n == 0) ≡ false
not_none n = grind arith

-- so it does of any element
pub some_counted : {X : Type 0} (xs : List X) → nat_lt 0 (min 1 (how_many (λ _. true) xs)) ≡ not (length xs == 0)
some_counted [] = refl
some_counted (x ∷ xs) = one_of_more (how_many (λ _. true) xs) ∙ ap not (sym (not_none (length xs)))

-- a count up to one more than a number is compared with it as the whole count is
pub compare_up_to : (c : Cmp) (k n : ℕ) → compare_numbers c (min (n + 1) k) n ≡ compare_numbers c k n
compare_up_to Equal k n = grind arith
compare_up_to Differ k n = grind arith
compare_up_to Less k n = grind arith
compare_up_to AtMost k n = grind arith
compare_up_to More k n = grind arith
compare_up_to AtLeast k n = grind arith

-- the texts of nodes, and the nodes that have one
pub any_texts : (tree : NodeTree) (q : List ℕ → Bool) (ns : List Node) → list_any q (flat_map (texts_of_node tree) ns) ≡ list_any (λ n. has_text n && q (tree.text n)) ns
any_texts tree q [] = refl
any_texts tree q (n ∷ ns) = elim (has_text n) as (λ b. list_any q (cond b (tree.text n ∷ []) [] ++ flat_map (texts_of_node tree) ns) ≡ ((b && q (tree.text n)) || list_any (λ n. has_text n && q (tree.text n)) ns)) [
  | true ↦ ap (λ r. q (tree.text n) || r) (any_texts tree q ns)
  | false ↦ any_texts tree q ns
]

-- one child, and then those after it
pub below_more : (tree : NodeTree) (current : Node) (sought : Sought) (es : Predicates) (ss : Strides) (n : Node) (ns : List Node)
    → sought_below tree current sought es ss (n ∷ ns) ≡ sought_below tree current sought es ss (n ∷ []) + sought_below tree current sought es ss ns
below_more tree current sought es ss n ns =
    let count : List Node → ℕ = how_many (is_sought tree current sought) in
    let lead : Node → List Node = walk tree current ss in
    let rest : List Node = filter (passes tree current es) ns in
    elim (passes tree current es n) as (λ b. count (flat_map lead (cond b (n ∷ rest) rest)) ≡ count (flat_map lead (cond b (n ∷ []) [])) + count (flat_map lead rest)) [
      | true ↦ how_many-append _ (lead n) (flat_map lead rest) ∙ ap (λ l. count l + count (flat_map lead rest)) (sym (append-nil (lead n)))
      | false ↦ sym (zero-add _)
    ]

pub drop_here : {X : Type 0} (xs : List X) (i : ℕ) (x : X) → slice_get xs i ≡ Some x → drop i xs ≡ x ∷ drop (i + 1) xs
drop_here xs i x e = rw (add-one, drop-cons xs i x (slice_get_within xs i x e), get_or_from_slice_get xs i x x e) refl

pub drop_end : {X : Type 0} (xs : List X) (i : ℕ) → slice_get xs i ≡ None → drop i xs ≡ []
drop_end xs i e = elim (slice_get_cases xs i).1 [
  | inl h ↦ absurd (let same : None ≡ Some h.0 = sym e ∙ h.2 in cc)
  | inr h ↦ drop_of_length-le xs h.0
]

-- what a step of the loop over the children counts
pub next_count : (limit found r a b whole : ℕ) → r ≡ min (limit - found) a → found < limit → (found + r ≡ limit → ⊥)
    → min limit (found + (a + b)) ≡ whole → min limit (found + r + b) ≡ whole
next_count limit found r a b whole is room short count = omega arith

pub last_count : (limit found r a b whole : ℕ) → r ≡ min (limit - found) a → found < limit → found + r ≡ limit
    → min limit (found + (a + b)) ≡ min limit whole → found + r ≡ min limit whole
last_count limit found r a b whole is room full count = omega arith

pub no_more_count : (limit found whole : ℕ) → found < limit → min limit (found + 0) ≡ whole → found ≡ whole
no_more_count limit found whole room count = omega arith

-- the loop's count, with the first child apart
pub below_step : (tree : NodeTree) (current : Node) (sought : Sought) (es : Predicates) (ss : Strides) (limit found : ℕ) (ns : List Node) (n : Node) (rest : List Node) (whole : ℕ)
    → ns ≡ n ∷ rest
    → min limit (found + sought_below tree current sought es ss ns) ≡ whole
    → min limit (found + (sought_below tree current sought es ss (n ∷ []) + sought_below tree current sought es ss rest)) ≡ whole
below_step tree current sought es ss limit found ns n rest whole here count =
    ap (λ k. min limit (found + k)) (sym (ap (sought_below tree current sought es ss) here ∙ below_more tree current sought es ss n rest)) ∙ count
