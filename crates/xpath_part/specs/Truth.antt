-- What an expression says of nodes (XPath 1.0, sections 2, 3.3 and 3.4, in a profile).
use Rattle.std.specs.Prelude.{ℕ, ◌==◌, ◌&&◌, ◌||◌, not, Bool, true, List, [], ◌∷◌, length, nat_lt, nat_le, if◌then◌else◌}
use Rattle.std.specs.List.{filter, flat_map, list_any}
use Rattle.std.specs.Option.{option_to_list}
use Rattle.std.specs.Str.{bytes_eq}
use Rattle.xpath_part.specs.Expression.{Expression, or_of, and_of, not_of, alone, equal, differ, count, Term, path, literal, Path, along, Strides, no_strides, stride, Stride, up, stay, child, Predicates, no_predicates, predicate}
use Rattle.xpath_part.specs.Nodes.{NodeTree, has_text}
use Rattle.xpath_part.specs.declared.nodes.Node.{Node}
use Rattle.xpath_part.specs.declared.comparisons.Cmp.{Cmp}
use Rattle.xpath_part.specs.declared.comparisons.Cmp.TheVariants.{Equal, Differ, Less, AtMost, More, AtLeast}
use Rattle.xpath_part.specs.declared.origins.Origin.{Origin}
use Rattle.xpath_part.specs.declared.origins.Origin.TheVariants.{Root, Context, Current}

-- whether two numbers compare so
abbrev pub compare_numbers : Cmp → ℕ → ℕ → Bool
compare_numbers Equal m n = m == n
compare_numbers Differ m n = not (m == n)
compare_numbers Less m n = nat_lt m n
compare_numbers AtMost m n = nat_le m n
compare_numbers More m n = nat_lt n m
compare_numbers AtLeast m n = nat_le n m

-- whether two texts differ
abbrev pub are_different : List ℕ → List ℕ → Bool
are_different a b = not (bytes_eq a b)

-- some text of the one side and some text of the other are so
abbrev pub some_pair : (List ℕ → List ℕ → Bool) → List (List ℕ) → List (List ℕ) → Bool
some_pair so left right = list_any (λ a. list_any (so a) right) left

-- the text of a leaf or an item; other nodes give a comparison none
abbrev pub texts_of_node : NodeTree → Node → List (List ℕ)
texts_of_node tree n = if has_text n then tree.text n ∷ [] else []

-- where a path begins
abbrev pub start : NodeTree → Node → Origin → Node → Node
start tree current Root context = tree.root
start tree current Context context = context
start tree current Current context = current

abbrev mutual
  -- the value of an expression at a context node, where `current()` means the node current
  pub value : NodeTree → Node → Expression → Node → Bool
  value tree current (or_of a b) context =
      value tree current a context || value tree current b context
  value tree current (and_of a b) context =
      value tree current a context && value tree current b context
  value tree current (not_of a) context = not (value tree current a context)
  value tree current (alone t) context = term_value tree current t context
  value tree current (equal l r) context =
      some_pair bytes_eq (texts tree current l context) (texts tree current r context)
  value tree current (differ l r) context =
      some_pair are_different (texts tree current l context) (texts tree current r context)
  value tree current (count p c n) context =
      compare_numbers c (length (selected tree current p context)) n

  -- a path alone is true where it selects a node, and a literal where it isn't empty
  pub term_value : NodeTree → Node → Term → Node → Bool
  term_value tree current (path p) context = not (length (selected tree current p context) == 0)
  term_value tree current (literal s) context = not (length s == 0)

  -- the texts that stand for a side of a comparison
  pub texts : NodeTree → Node → Term → Node → List (List ℕ)
  texts tree current (path p) context =
      flat_map (texts_of_node tree) (selected tree current p context)
  texts tree current (literal s) context = s ∷ []

  -- the nodes that a path selects
  pub selected : NodeTree → Node → Path → Node → List Node
  selected tree current (along o ss) context = walk tree current ss (start tree current o context)

  -- each node that the first step selects is the context node of the steps after it
  pub walk : NodeTree → Node → Strides → Node → List Node
  walk tree current no_strides n = n ∷ []
  walk tree current (stride s ss) n = flat_map (walk tree current ss) (reached tree current s n)

  -- the nodes that a step selects: the parent, the node itself, or the children of that name at which
  -- each predicate is true
  pub reached : NodeTree → Node → Stride → Node → List Node
  reached tree current up n = option_to_list (tree.parent n)
  reached tree current stay n = n ∷ []
  reached tree current (child prefix name es) n =
      filter (passes tree current es) (tree.children n name)

  -- each predicate is true at the node
  pub passes : NodeTree → Node → Predicates → Node → Bool
  passes tree current no_predicates n = true
  passes tree current (predicate e es) n = value tree current e n && passes tree current es n

-- the truth of an expression at a context node, which is also what `current()` means
abbrev pub truth : NodeTree → Expression → Node → Bool
truth tree e context = value tree context e context
