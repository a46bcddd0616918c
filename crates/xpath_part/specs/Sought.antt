-- What is sought among the nodes that a path selects.
use Rattle.std.specs.Prelude.{ℕ, ◌+◌, ◌&&◌, Bool, true, List, [], ◌∷◌, map, if◌then◌else◌}
use Rattle.std.specs.List.{filter, flat_map, list_any}
use Rattle.std.specs.Str.{bytes_eq}
use Rattle.xpath_part.specs.Expression.{Strides, Predicates, strides_of, predicates_of}
use Rattle.xpath_part.specs.Expressions.{expression, term_of, step_of}
use Rattle.xpath_part.specs.declared.expressions.Expr.{Expr}
use Rattle.xpath_part.specs.declared.expressions.Step.{Step}
use Rattle.xpath_part.specs.Nodes.{NodeTree, has_text}
use Rattle.xpath_part.specs.Truth.{are_different, texts, walk, passes}
use Rattle.xpath_part.specs.declared.nodes.Node.{Node}
use Rattle.xpath_part.specs.declared.sought.Relation.{Relation}
use Rattle.xpath_part.specs.declared.sought.Relation.TheVariants.{Same, Different}
use Rattle.xpath_part.specs.declared.sought.Sought.{Sought}
use Rattle.xpath_part.specs.declared.sought.Sought.TheVariants.{Any, Text, Against}

-- how many pass a test
abbrev pub how_many : {X : Type 0} → (X → Bool) → List X → ℕ
how_many test [] = 0
how_many test (x ∷ xs) = (if test x then 1 else 0) + how_many test xs

-- whether two texts are in the relation
abbrev pub relates : Relation → List ℕ → List ℕ → Bool
relates Same = bytes_eq
relates Different = are_different

-- whether a node is sought
abbrev pub is_sought : NodeTree → Node → Sought → Node → Bool
is_sought tree current Any n = true
is_sought tree current (Text r s) n = has_text n && relates r s.now (tree.text n)
is_sought tree current (Against r o x) n =
    has_text n && list_any (relates r (tree.text n)) (texts tree current (term_of o.now) x)

-- the context node beside an operand is a node
abbrev pub IsSoughtAtNodes : (Node → Type 0) → Sought → Type 0
IsSoughtAtNodes IsNode Any = Unit {0}
IsSoughtAtNodes IsNode (Text r s) = Unit {0}
IsSoughtAtNodes IsNode (Against r o x) = IsNode x

-- how many nodes are sought among those to which steps lead from the children that pass tests
abbrev pub sought_below : NodeTree → Node → Sought → Predicates → Strides → List Node → ℕ
sought_below tree current sought es ss ns =
    how_many (is_sought tree current sought)
    (flat_map (walk tree current ss) (filter (passes tree current es) ns))

-- the walk and the tests of what is read
abbrev pub walk_of : NodeTree → Node → List Step → Node → List Node
walk_of tree current steps = walk tree current (strides_of (map step_of steps))

-- how many nodes are sought, of what is read
abbrev pub found_below :
    NodeTree → Node → Sought → List Expr → List Step → List Node → ℕ
found_below tree current sought tests steps =
    sought_below tree current sought (predicates_of (map expression tests))
    (strides_of (map step_of steps))
