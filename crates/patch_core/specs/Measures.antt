-- What an edit and an operation do to weight and depth.
use Rattle.std.specs.Prelude.{◌≡◌, ℕ, ◌+◌, ◌<◌, ◌≤◌, max, length, Option, Some, None, Result, Ok, Err}
use Rattle.conf_doc.specs.Document.{Document, weight, depth}
use Rattle.conf_doc.specs.Trees.{document}
use Rattle.conf_doc.specs.declared.trees.Tree.{Tree}
use Rattle.patch_core.specs.Apply.{target, most_levels, most_weight}
use Rattle.patch_core.specs.Operation.{Operation, add, remove, replace, move_to, copy_to, test}
use Rattle.patch_core.specs.declared.errors.FailWhy.{FailWhy}
use Rattle.patch_core.specs.declared.node_edits.Edit.{Edit}
use Rattle.patch_core.specs.declared.node_edits.Edit.TheVariants.{Add, Remove, Replace}
use Rattle.patch_core.specs.declared.node_edits.Change.{Change}

-- the weight of what went out
abbrev pub weight_out : Option Tree → ℕ
weight_out None = 0
weight_out (Some t) = weight (document t)

-- ---- edits

-- the weight of the document that an edit brings
abbrev pub weight_of_edit : Edit → ℕ
weight_of_edit (Add t) = weight (document t)
weight_of_edit Remove = 0
weight_of_edit (Replace t) = weight (document t)

-- how deep it reaches at the end of so many tokens
abbrev pub reach_of_edit : Edit → ℕ → ℕ
reach_of_edit (Add t) steps = steps + depth (document t)
reach_of_edit Remove steps = 0
reach_of_edit (Replace t) steps = steps + depth (document t)

-- no name goes out by an add, and none comes in by a remove
abbrev pub AreNames : Edit → (name_in name_out : ℕ) → Type 0
AreNames (Add t) name_in name_out = name_out ≡ 0
AreNames Remove name_in name_out = name_in ≡ 0
AreNames (Replace t) name_in name_out = Unit {0}

-- what came and what went make the difference
pub record IsMeasured (edit : Edit) (c : Change) (steps : ℕ) (before : Document) : Type 0 where
  pub balances :
      weight (document c.tree) + weight_out c.out + c.name_out
      ≡ weight before + weight_of_edit edit + c.name_in
  pub names : AreNames edit c.name_in c.name_out
  pub part : weight_out c.out + c.name_out ≤ weight before
  pub deep : depth (document c.tree) ≤ max (depth before) (reach_of_edit edit steps)
  pub reaches : reach_of_edit edit steps ≤ depth (document c.tree)

-- ---- operations

-- the weight of what is there
abbrev pub weight_there : Result Document FailWhy → ℕ
weight_there (Ok d) = weight d
weight_there (Err why) = 0

-- how deep it reaches below so many tokens
abbrev pub reach_there : ℕ → Result Document FailWhy → ℕ
reach_there steps (Ok d) = steps + depth d
reach_there steps (Err why) = 0

-- the weight of the document that an operation puts at its path
abbrev pub weight_put : Operation → Document → ℕ
weight_put (add path v) d = weight v
weight_put (remove path) d = 0
weight_put (replace path v) d = weight v
weight_put (move_to from path) d = weight_there (target from d)
weight_put (copy_to from path) d = weight_there (target from d)
weight_put (test path v) d = 0

-- how much of it wasn't in the tree before
abbrev pub weight_new : Operation → Document → ℕ
weight_new (add path v) d = weight v
weight_new (remove path) d = 0
weight_new (replace path v) d = weight v
weight_new (move_to from path) d = 0
weight_new (copy_to from path) d = weight_there (target from d)
weight_new (test path v) d = 0

-- how deep it reaches there
abbrev pub reach : Operation → Document → ℕ
reach (add path v) d = length path + depth v
reach (remove path) d = 0
reach (replace path v) d = length path + depth v
reach (move_to from path) d = reach_there (length path) (target from d)
reach (copy_to from path) d = reach_there (length path) (target from d)
reach (test path v) d = 0

-- the same of an operation
pub record IsChange (op : Operation) (c : Change) (before : Document) : Type 0 where
  pub balances :
      weight (document c.tree) + weight_out c.out + c.name_out
      ≡ weight before + weight_new op before + c.name_in
  pub part : weight_out c.out + c.name_out ≤ weight before
  pub light : weight_put op before ≤ weight before + weight_new op before
  pub deep : depth (document c.tree) ≤ max (depth before) (reach op before)
  pub reaches : reach op before ≤ depth (document c.tree)

-- ---- the limit

-- what is left of a budget after a weight, where the depth fits too
abbrev pub Leaves : Option ℕ → (budget levels w d : ℕ) → Type 0
Leaves (Some left) budget levels w d = (left + w ≡ budget) × (d ≤ levels)
Leaves None budget levels w d = w ≤ budget → levels < d

-- the weight of a document that fits below so many tokens, or none where it doesn't
abbrev pub IsWeightAt : ℕ → Document → Option ℕ → Type 0
IsWeightAt steps d (Some w) = (w ≡ weight d) × (w ≤ most_weight) × (steps + depth d ≤ most_levels)
IsWeightAt steps d None = weight d ≤ most_weight → most_levels < steps + depth d

-- the weight that an operation adds, or none where what it puts doesn't fit
abbrev pub IsWeightOf : Operation → Document → Option ℕ → Type 0
IsWeightOf op d (Some w) = (w ≡ weight_new op d) × (w ≤ most_weight) × (reach op d ≤ most_levels)
IsWeightOf op d None = weight_put op d ≤ most_weight → most_levels < reach op d

-- a sum of weights within the limit, or none where it exceeds it
abbrev pub IsSumWithin : ℕ → Option ℕ → Type 0
IsSumWithin sum (Some w) = (w ≡ sum) × (w ≤ most_weight)
IsSumWithin sum None = most_weight < sum
