-- Walks by steps that come back to where they begin.
use Rattle.std.proofs.Common.{◌≡◌, ℕ, ◌+◌, ◌&&◌, ◌||◌, Bool, true, false, cond, min, List, [], ◌∷◌, ◌++◌, map, Option, Some, refl, sym, ap, ◌∙◌, zero-add, arith}
use Rattle.std.specs.List.{filter, flat_map, list_any}
use Rattle.std.specs.Option.{option_to_list}
use Rattle.std.proofs.Math.Bool.{or-false}
use Rattle.std.proofs.lemmas.List.{map-append}
use Rattle.std.proofs.lemmas.List.Folds.{list_any-append}
use Rattle.xpath_part.specs.Detours.{finds, finds_below, ComesBack, ComeBack, LeadsBack, LeadsNowhere}
use Rattle.xpath_part.specs.Expression.{Expression, Stride, Strides, stride, child, strides_of, strides_weight, predicates_of, predicates_weight}
use Rattle.xpath_part.specs.Expressions.{expression, step_of}
use Rattle.xpath_part.specs.Nodes.{NodeTree}
use Rattle.xpath_part.specs.Sought.{how_many, walk_of}
use Rattle.xpath_part.specs.Truth.{walk, reached, passes}
use Rattle.xpath_part.specs.declared.expressions.Expr.{Expr}
use Rattle.xpath_part.specs.declared.expressions.Step.{Step}
use Rattle.xpath_part.specs.declared.expressions.Step.TheVariants.{Up}
use Rattle.xpath_part.specs.declared.nodes.Node.{Node}

-- a test of what is found from each of some
any_flat : {X A : Type 0} (test : A → Bool) (f : X → List A) (xs : List X) → list_any test (flat_map f xs) ≡ list_any (λ x. list_any test (f x)) xs
any_flat test f [] = refl
any_flat test f (x ∷ xs) = list_any-append test (f x) (flat_map f xs) ∙ ap (λ b. list_any test (f x) || b) (any_flat test f xs)

any_same : {X : Type 0} (p q : X → Bool) → ((x : X) → p x ≡ q x) → (xs : List X) → list_any p xs ≡ list_any q xs
any_same p q same [] = refl
any_same p q same (x ∷ xs) = ap (λ b. b || list_any p xs) (same x) ∙ ap (λ b. q x || b) (any_same p q same xs)

-- steps, and others behind them
any_walk : (tree : NodeTree) (current : Node) (test : Node → Bool) (xs ys : List Stride) (n : Node)
    → list_any test (walk tree current (strides_of (xs ++ ys)) n) ≡ list_any (λ m. list_any test (walk tree current (strides_of ys) m)) (walk tree current (strides_of xs) n)
any_walk tree current test [] ys n = sym (or-false _)
any_walk tree current test (x ∷ xs) ys n =
    let behind : Node → Bool = λ m. list_any test (walk tree current (strides_of ys) m) in
    let whole : Node → Bool = λ m. list_any test (walk tree current (strides_of (xs ++ ys)) m) in
    let first : Node → Bool = λ m. list_any behind (walk tree current (strides_of xs) m) in
    any_flat test (walk tree current (strides_of (xs ++ ys))) (reached tree current x n)
    ∙ any_same whole first (any_walk tree current test xs ys) (reached tree current x n)
    ∙ sym (any_flat behind (walk tree current (strides_of xs)) (reached tree current x n))

finds-append : (tree : NodeTree) (current : Node) (test : Node → Bool) (xs ys : List Step) (n : Node)
    → finds tree current test (xs ++ ys) n ≡ finds tree current (finds tree current test ys) xs n
finds-append tree current test xs ys n =
    ap (λ (l : List Stride). list_any test (walk tree current (strides_of l) n)) (map-append step_of xs ys)
    ∙ any_walk tree current test (map step_of xs) (map step_of ys) n

-- a step up
finds_up : (tree : NodeTree) (current : Node) (test : Node → Bool) (steps : List Step) (n m : Node)
    → tree.parent n ≡ Some m → finds tree current test (Up ∷ steps) n ≡ finds tree current test steps m
finds_up tree current test steps n m above =
    any_flat test (walk_of tree current steps) (option_to_list (tree.parent n))
    ∙ ap (λ o. list_any (finds tree current test steps) (option_to_list o)) above
    ∙ or-false _

-- one child
one_below : (p f : Node → Bool) (n : Node) → list_any f (filter p (n ∷ [])) ≡ (p n && f n)
one_below p f n = elim (p n) as (λ b. list_any f (cond b (n ∷ []) []) ≡ (b && f n)) [
  | true ↦ or-false _
  | false ↦ refl
]

-- one child, and then those behind it
more_below : (p f : Node → Bool) (n : Node) (ns : List Node) → list_any f (filter p (n ∷ ns)) ≡ (list_any f (filter p (n ∷ [])) || list_any f (filter p ns))
more_below p f n ns = elim (p n) as (λ b. list_any f (cond b (n ∷ filter p ns) (filter p ns)) ≡ (list_any f (cond b (n ∷ []) []) || list_any f (filter p ns))) [
  | true ↦ ap (λ b. b || list_any f (filter p ns)) (sym (or-false (f n)))
  | false ↦ refl
]

and_none : (a b : Bool) → b ≡ false → (a && b) ≡ false
and_none true b none = none
and_none false b none = refl

-- a child that fails a test
pub failing_child : (tree : NodeTree) (current : Node) (tests : List Expr) (steps : List Step) (m n : Node)
    → passes tree current (predicates_of (map expression tests)) m ≡ false → ComeBack tree current tests steps (m ∷ []) n false
failing_child tree current tests steps m n fails test tail =
    let behind = finds tree current test (steps ++ Up ∷ tail) in
    one_below (passes tree current (predicates_of (map expression tests))) behind m ∙ ap (λ b. b && behind m) fails

-- a child from which steps lead nowhere
pub lost_child : (tree : NodeTree) (current : Node) (tests : List Expr) (steps : List Step) (m n : Node)
    → ComesBack tree current steps m false → ComeBack tree current tests steps (m ∷ []) n false
lost_child tree current tests steps m n lost test tail =
    let behind = finds tree current test (steps ++ Up ∷ tail) in
    let none : behind m ≡ false = finds-append tree current test steps (Up ∷ tail) m ∙ lost (finds tree current test (Up ∷ tail)) in
    one_below (passes tree current (predicates_of (map expression tests))) behind m
    ∙ and_none (passes tree current (predicates_of (map expression tests)) m) (behind m) none

-- a child from which steps lead to itself
pub child_back : (tree : NodeTree) (current : Node) (tests : List Expr) (steps : List Step) (m n : Node)
    → passes tree current (predicates_of (map expression tests)) m ≡ true → ComesBack tree current steps m true
    → tree.parent m ≡ Some n → ComeBack tree current tests steps (m ∷ []) n true
child_back tree current tests steps m n passed back above test tail =
    let behind = finds tree current test (steps ++ Up ∷ tail) in
    one_below (passes tree current (predicates_of (map expression tests))) behind m ∙ ap (λ b. b && behind m) passed
    ∙ finds-append tree current test steps (Up ∷ tail) m ∙ back (finds tree current test (Up ∷ tail)) ∙ finds_up tree current test tail m n above

-- what is found of some children, and of the others
abbrev pub Found : NodeTree → Node → List Expr → List Step → List Node → List Node → Node → Bool → Type 0
Found tree current tests steps ns all n some =
    (test : Node → Bool) (tail : List Step)
    → ((some && finds tree current test tail n) || finds_below tree current test tests (steps ++ Up ∷ tail) ns)
    ≡ finds_below tree current test tests (steps ++ Up ∷ tail) all

step_found : (some back found rest : Bool) → ((some || back) && found || rest) ≡ ((some && found) || ((back && found) || rest))
step_found true back found rest = elim found as (λ (f : Bool). (f || rest) ≡ (f || ((back && f) || rest))) [
  | true ↦ refl
  | false ↦ elim back as (λ (b : Bool). rest ≡ ((b && false) || rest)) [ true ↦ refl | false ↦ refl ]
]
step_found false back found rest = refl

pub next_found : (tree : NodeTree) (current : Node) (tests : List Expr) (steps : List Step) (ns : List Node) (m : Node) (rest all : List Node) (n : Node) (some back : Bool)
    → ns ≡ m ∷ rest → ComeBack tree current tests steps (m ∷ []) n back → Found tree current tests steps ns all n some
    → Found tree current tests steps rest all n (some || back)
next_found tree current tests steps ns m rest all n some back here comes found test tail =
    let below : List Node → Bool = finds_below tree current test tests (steps ++ Up ∷ tail) in
    let leads : Bool = finds tree current test tail n in
    step_found some back leads (below rest)
    ∙ ap (λ b. (some && leads) || (b || below rest)) (sym (comes test tail))
    ∙ ap (λ b. (some && leads) || b) (sym (ap below here ∙ more_below (passes tree current (predicates_of (map expression tests))) (finds tree current test (steps ++ Up ∷ tail)) m rest))
    ∙ found test tail

pub all_found : (tree : NodeTree) (current : Node) (tests : List Expr) (steps : List Step) (ns all : List Node) (n : Node) (some : Bool)
    → ns ≡ [] → Found tree current tests steps ns all n some → ComeBack tree current tests steps all n some
all_found tree current tests steps ns all n some none found test tail =
    let below : List Node → Bool = finds_below tree current test tests (steps ++ Up ∷ tail) in
    sym (found test tail) ∙ ap (λ ms. (some && finds tree current test tail n) || below ms) none ∙ or-false _

weight-append : (xs ys : List Stride) → strides_weight (strides_of (xs ++ ys)) + 1 ≡ strides_weight (strides_of xs) + strides_weight (strides_of ys)
weight-append [] ys = omega arith
weight-append (x ∷ xs) ys = omega (arith, weight-append xs ys)

-- steps before one up, and those behind it
pub cut_weight : (steps before behind : List Step) → steps ≡ before ++ Up ∷ behind
    → strides_weight (strides_of (map step_of before)) + strides_weight (strides_of (map step_of behind)) + 1 ≡ strides_weight (strides_of (map step_of steps))
cut_weight steps before behind at =
    let first = map step_of before in
    let rest = map step_of behind in
    let same : strides_weight (strides_of (map step_of steps)) ≡ strides_weight (strides_of (first ++ step_of Up ∷ rest)) =
    ap (λ (l : List Step). strides_weight (strides_of (map step_of l))) at ∙ ap (λ (l : List Stride). strides_weight (strides_of l)) (map-append step_of before (Up ∷ behind)) in
    omega (arith, same, weight-append first (step_of Up ∷ rest))

-- what is found below, as what a step to children finds
finds_child : (tree : NodeTree) (current : Node) (test : Node → Bool) (tests : List Expr) (steps : List Step) (ns : List Node)
    → list_any test (flat_map (walk_of tree current steps) (filter (passes tree current (predicates_of (map expression tests))) ns)) ≡ finds_below tree current test tests steps ns
finds_child tree current test tests steps ns =
    any_flat test (walk_of tree current steps) (filter (passes tree current (predicates_of (map expression tests))) ns)

-- a count up to 1 from whether there is one
one_counted : {X : Type 0} (p : X → Bool) (xs : List X) → min 1 (how_many p xs) ≡ cond (list_any p xs) 1 0
one_counted p [] = refl
one_counted p (x ∷ xs) = elim (p x) as (λ b. min 1 (cond b 1 0 + how_many p xs) ≡ cond (b || list_any p xs) 1 0) [
  | true ↦ omega arith
  | false ↦ rw zero-add (one_counted p xs)
]

-- a count where steps come back, and where they lead nowhere
pub count_back : (tree : NodeTree) (current : Node) (limit : ℕ) (tests : List Expr) (steps tail : List Step) (ns : List Node) (n : Node) (test : Node → Bool)
    → LeadsBack tree current limit tests steps tail ns n
    → min limit (how_many test (flat_map (walk_of tree current steps) (filter (passes tree current (predicates_of (map expression tests))) ns)))
    ≡ min limit (how_many test (walk_of tree current tail n))
count_back tree current limit tests steps tail ns n test leads =
    let below : List Node = flat_map (walk_of tree current steps) (filter (passes tree current (predicates_of (map expression tests))) ns) in
    ap (λ k. min k (how_many test below)) leads.one ∙ one_counted test below
    ∙ ap (λ b. cond b 1 0) (finds_child tree current test tests steps ns ∙ leads.same test)
    ∙ sym (one_counted test (walk_of tree current tail n)) ∙ ap (λ k. min k (how_many test (walk_of tree current tail n))) (sym leads.one)

pub count_nowhere : (tree : NodeTree) (current : Node) (limit : ℕ) (tests : List Expr) (steps : List Step) (ns : List Node) (test : Node → Bool)
    → LeadsNowhere tree current limit tests steps ns
    → min limit (how_many test (flat_map (walk_of tree current steps) (filter (passes tree current (predicates_of (map expression tests))) ns))) ≡ 0
count_nowhere tree current limit tests steps ns test leads =
    let below : List Node = flat_map (walk_of tree current steps) (filter (passes tree current (predicates_of (map expression tests))) ns) in
    ap (λ k. min k (how_many test below)) leads.one ∙ one_counted test below
    ∙ ap (λ b. cond b 1 0) (finds_child tree current test tests steps ns ∙ leads.none test)

-- a step to children before other steps: what is counted and what is found
pub child_count : (tree : NodeTree) (current : Node) (limit : ℕ) (test : Node → Bool) (here : Node) (shown name : List ℕ) (tests : List Expr) (said : List Expression)
    (prefix : Option (List ℕ)) (step : Step) (rest ahead : List Step) (whole : ℕ)
    → shown ≡ name → map expression tests ≡ said → step_of step ≡ child prefix name (predicates_of said) → ahead ≡ step ∷ rest
    → min limit (how_many test (walk_of tree current ahead here)) ≡ whole
    → min limit (how_many test (flat_map (walk_of tree current rest) (filter (passes tree current (predicates_of (map expression tests))) (tree.children here shown)))) ≡ whole
child_count tree current limit test here shown name tests said prefix step rest ahead whole named tested stepped begins counted =
    let leads : Strides → ℕ = λ ss. min limit (how_many test (walk tree current ss here)) in
    let below : List Expression → List ℕ → ℕ = λ es s. min limit (how_many test (flat_map (walk_of tree current rest) (filter (passes tree current (predicates_of es)) (tree.children here s)))) in
    ap (λ es. below es shown) tested ∙ ap (below said) named
    ∙ ap (λ s. leads (stride s (strides_of (map step_of rest)))) (sym stepped)
    ∙ ap (λ (ss : List Step). leads (strides_of (map step_of ss))) (sym begins) ∙ counted

pub child_finds : (tree : NodeTree) (current : Node) (test : Node → Bool) (here : Node) (shown name : List ℕ) (tests : List Expr) (said : List Expression)
    (prefix : Option (List ℕ)) (step : Step) (rest ahead : List Step) (whole : Bool)
    → shown ≡ name → map expression tests ≡ said → step_of step ≡ child prefix name (predicates_of said) → ahead ≡ step ∷ rest
    → finds tree current test ahead here ≡ whole
    → finds_below tree current test tests rest (tree.children here shown) ≡ whole
child_finds tree current test here shown name tests said prefix step rest ahead whole named tested stepped begins found =
    let leads : Strides → Bool = λ ss. list_any test (walk tree current ss here) in
    let below : List Expression → List ℕ → Bool = λ es s. list_any test (flat_map (walk_of tree current rest) (filter (passes tree current (predicates_of es)) (tree.children here s))) in
    sym (finds_child tree current test tests rest (tree.children here shown))
    ∙ ap (λ es. below es shown) tested ∙ ap (below said) named
    ∙ ap (λ s. leads (stride s (strides_of (map step_of rest)))) (sym stepped)
    ∙ ap (λ (ss : List Step). leads (strides_of (map step_of ss))) (sym begins) ∙ found

-- the weight of the steps behind one to children
pub child_weight : (name : List ℕ) (said : List Expression) (prefix : Option (List ℕ)) (step : Step) (rest ahead : List Step)
    → step_of step ≡ child prefix name (predicates_of said) → ahead ≡ step ∷ rest
    → strides_weight (strides_of (map step_of ahead)) ≡ predicates_weight (predicates_of said) + strides_weight (strides_of (map step_of rest)) + 2
child_weight name said prefix step rest ahead stepped begins =
    let same : strides_weight (strides_of (map step_of ahead)) ≡ strides_weight (stride (child prefix name (predicates_of said)) (strides_of (map step_of rest))) =
    ap (λ (ss : List Step). strides_weight (strides_of (map step_of ss))) begins ∙ ap (λ s. strides_weight (stride s (strides_of (map step_of rest)))) stepped in
    omega (arith, same)
