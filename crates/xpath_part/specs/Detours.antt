-- Steps that go down from a node and come back to it.
use Rattle.std.specs.Prelude.{◌≡◌, ◌≤◌, ◌++◌, ◌∷◌, ◌&&◌, ℕ, Bool, false, List, map}
use Rattle.std.specs.List.{filter, list_any}
use Rattle.xpath_part.specs.Expression.{predicates_of, strides_of, strides_weight}
use Rattle.xpath_part.specs.Expressions.{expression, step_of}
use Rattle.xpath_part.specs.Nodes.{NodeTree}
use Rattle.xpath_part.specs.Sought.{walk_of}
use Rattle.xpath_part.specs.Truth.{passes}
use Rattle.xpath_part.specs.declared.detours.Detour.{Detour}
use Rattle.xpath_part.specs.declared.detours.Detour.TheVariants.{Back, Nowhere, Unknown}
use Rattle.xpath_part.specs.declared.expressions.Expr.{Expr}
use Rattle.xpath_part.specs.declared.expressions.Step.{Step}
use Rattle.xpath_part.specs.declared.expressions.Step.TheVariants.{Up}
use Rattle.xpath_part.specs.declared.nodes.Node.{Node}

-- whether a test is true at some node to which steps lead from a node
abbrev pub finds : NodeTree → Node → (Node → Bool) → List Step → Node → Bool
finds tree current test steps n = list_any test (walk_of tree current steps n)

-- the same from some of the children that pass tests
abbrev pub finds_below :
    NodeTree → Node → (Node → Bool) → List Expr → List Step → List Node → Bool
finds_below tree current test tests steps ns =
    list_any (finds tree current test steps)
    (filter (passes tree current (predicates_of (map expression tests))) ns)

-- all nodes to which steps lead from a node are that node, and whether there are any
abbrev pub ComesBack : NodeTree → Node → List Step → Node → Bool → Type 0
ComesBack tree current steps n leads =
    (test : Node → Bool) → finds tree current test steps n ≡ (leads && test n)

-- the same of steps from children, and one up behind them, whatever stands behind that
abbrev pub ComeBack :
    NodeTree → Node → List Expr → List Step → List Node → Node → Bool → Type 0
ComeBack tree current tests steps ns n leads =
    (test : Node → Bool) (tail : List Step)
    → finds_below tree current test tests (steps ++ Up ∷ tail) ns
    ≡ (leads && finds tree current test tail n)

-- where one node is sought, steps from children lead to the nodes to which fewer steps lead from another
pub record LeadsBack
    (tree : NodeTree) (current : Node) (limit : ℕ) (tests : List Expr) (steps tail : List Step)
    (ns : List Node) (n : Node) : Type 0 where
  pub one : limit ≡ 1
  pub same :
      (test : Node → Bool)
      → finds_below tree current test tests steps ns ≡ finds tree current test tail n
  pub less :
      strides_weight (strides_of (map step_of tail))
      ≤ strides_weight (strides_of (map step_of steps))

-- where one node is sought, steps from children lead to none
pub record LeadsNowhere
    (tree : NodeTree) (current : Node) (limit : ℕ) (tests : List Expr) (steps : List Step)
    (ns : List Node) : Type 0 where
  pub one : limit ≡ 1
  pub none : (test : Node → Bool) → finds_below tree current test tests steps ns ≡ false

-- what steps from children come to
abbrev pub IsDetour :
    NodeTree → Node → ℕ → List Expr → List Step → List Node → Node → Detour → Type 0
IsDetour tree current limit tests steps ns n (Back tail) =
    LeadsBack tree current limit tests steps tail.now ns n
IsDetour tree current limit tests steps ns n Nowhere =
    LeadsNowhere tree current limit tests steps ns
IsDetour tree current limit tests steps ns n Unknown = Unit {0}
