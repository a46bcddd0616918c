-- An expression (XPath 1.0, sections 2, 3.3 and 3.4, in a profile).
use Rattle.std.specs.Prelude.{ℕ, suc, ◌+◌, List, [], ◌∷◌, Option}
use Rattle.xpath_part.specs.declared.comparisons.Cmp.{Cmp}
use Rattle.xpath_part.specs.declared.origins.Origin.{Origin}

mutual
  -- tests joined by `or`, `and` and `not`: a term alone, two compared, or the nodes of a path counted
  pub data Expression : Type 0 where
    or_of : Expression → Expression → Expression
    and_of : Expression → Expression → Expression
    not_of : Expression → Expression
    alone : Term → Expression
    equal : Term → Term → Expression
    differ : Term → Term → Expression
    count : Path → Cmp → ℕ → Expression

  -- what stands alone, or on a side of a comparison
  pub data Term : Type 0 where
    path : Path → Term
    literal : List ℕ → Term

  -- where a path begins, and its steps
  pub data Path : Type 0 where
    along : Origin → Strides → Path

  -- the steps of a path
  pub data Strides : Type 0 where
    no_strides : Strides
    stride : Stride → Strides → Strides

  -- `..`, `.`, or a name with its prefix, where it has one, and its predicates
  pub data Stride : Type 0 where
    up : Stride
    stay : Stride
    child : Option (List ℕ) → List ℕ → Predicates → Stride

  -- the predicates of a step
  pub data Predicates : Type 0 where
    no_predicates : Predicates
    predicate : Expression → Predicates → Predicates

-- steps as a list
abbrev pub strides : Strides → List Stride
strides no_strides = []
strides (stride s ss) = s ∷ strides ss

-- the steps of a list
abbrev pub strides_of : List Stride → Strides
strides_of [] = no_strides
strides_of (s ∷ ss) = stride s (strides_of ss)

-- predicates as a list
abbrev pub predicates : Predicates → List Expression
predicates no_predicates = []
predicates (predicate e es) = e ∷ predicates es

-- the predicates of a list
abbrev pub predicates_of : List Expression → Predicates
predicates_of [] = no_predicates
predicates_of (e ∷ es) = predicate e (predicates_of es)

abbrev mutual
  -- how much there is of an expression: more than of what stands in it
  pub weight : Expression → ℕ
  weight (or_of a b) = suc (weight a + weight b)
  weight (and_of a b) = suc (weight a + weight b)
  weight (not_of a) = suc (weight a)
  weight (alone t) = suc (term_weight t)
  weight (equal l r) = suc (term_weight l + term_weight r)
  weight (differ l r) = suc (term_weight l + term_weight r)
  weight (count p c n) = suc (path_weight p)

  -- of what stands alone or on a side
  pub term_weight : Term → ℕ
  term_weight (path p) = suc (suc (path_weight p))
  term_weight (literal s) = 1

  -- of a path
  pub path_weight : Path → ℕ
  path_weight (along o ss) = suc (strides_weight ss)

  -- of steps
  pub strides_weight : Strides → ℕ
  strides_weight no_strides = 1
  strides_weight (stride s ss) = suc (stride_weight s + strides_weight ss)

  -- of a step
  pub stride_weight : Stride → ℕ
  stride_weight up = 1
  stride_weight stay = 1
  stride_weight (child p n es) = suc (predicates_weight es)

  -- of predicates
  pub predicates_weight : Predicates → ℕ
  predicates_weight no_predicates = 1
  predicates_weight (predicate e es) = suc (weight e + predicates_weight es)
