-- The nodes of a configuration as they are walked.
use Rattle.std.specs.Prelude.{◌≡◌, ◌<◌, ◌-◌, ◌==◌, ℕ, Bool, false, List, Option, Some, MatchOption, length, slice_get, IsSome}
use Rattle.std.specs.Option.{option_map_or}
use Rattle.conf_doc.specs.Pairs.{find}
use Rattle.conf_doc.specs.declared.configuration.Config.{Config}
use Rattle.conf_doc.specs.declared.configuration.Entry.{Entry}
use Rattle.yang_model.specs.ModelSets.{ModelSet, owner_of}
use Rattle.yang_model.specs.declared.shapes.FieldRule.{FieldRule}
use Rattle.yang_model.specs.declared.shapes.Shape.{Shape}
use Rattle.xpath_part.specs.Nodes.{NodeTree}
use Rattle.xpath_part.specs.declared.nodes.Node.{Node}
use Rattle.conf_check.specs.ConfigTree.{root_level, module_level, entry_level, root_node, node_tree, shaped_row, module_of_table, modules_named, tables_named, entries_named, entries_from, leaves_named, is_shape_named, Held, absent, one, items, held_field, held_nodes}
use Rattle.conf_check.specs.Rows.{Row, row_of, row_at, HasNoShape, HasShape}
use Rattle.conf_check.specs.declared.children.HeldLeaf.{HeldLeaf}
use Rattle.conf_check.specs.declared.config_nodes.ConfigNodes.{ConfigNodes}
use Rattle.conf_check.specs.declared.leaves.HeldText.{HeldText}
use Rattle.conf_check.specs.declared.leaves.HeldText.TheVariants.{Absent, One, Items}
use Rattle.conf_check.specs.declared.leaves.ShapedEntry.{ShapedEntry}

-- the tree of the nodes
abbrev pub tree_of : ConfigNodes → NodeTree
tree_of s = node_tree s.models.now s.config.now s.known.0

-- the container of the module of the table at a place
abbrev pub module_of : ConfigNodes → ℕ → Option Node
module_of s table = module_of_table s.models.now s.config.now s.known.0 table

-- the table at a place is there and has a model
abbrev pub HasModule : ConfigNodes → ℕ → Type 0
HasModule s table = IsSome (module_of s table)

-- a node: of its level the root is the only one, and what stands below a module has a table that
-- has a model
pub record IsNodeOf (s : ConfigNodes) (n : Node) : Type 0 where
  pub root : n.level ≡ root_level → n ≡ root_node
  pub below : module_level < n.level → HasModule s n.table

-- a leaf or an item of an entry of the table at a place
pub record IsLeafOf (table : ℕ) (n : Node) : Type 0 where
  pub in_table : n.table ≡ table
  pub level : entry_level < n.level

-- an entry without the borrows
abbrev pub row_of_entry : ShapedEntry → Row
row_of_entry e = row_of e.table.now e.key.now e.fields.now

-- the entry at a place that belongs to a shape, with the shape
pub record IsShapedAt (models : ModelSet) (config : Config) (table key : ℕ)
    (e : ShapedEntry) : Type 0 where
  pub at : row_at models config table key ≡ Some (row_of_entry e)
  pub shaped : HasShape models (row_of_entry e) e.shape.now

-- the answer is the entry at a place with its shape, or None where there is none of a shape
abbrev pub FindsShaped : ModelSet → Config → ℕ → ℕ → Option ShapedEntry → Type 0
FindsShaped models config table key answer =
    MatchOption answer
    ((row : Row) → row_at models config table key ≡ Some row → HasNoShape models row)
    (IsShapedAt models config table key)

-- what is held without the borrows
abbrev pub held_of : HeldText → Held
held_of Absent = absent
held_of (One s) = one s.now
held_of (Items ts) = items ts.now

-- what an entry of those fields has of a field of that rule
abbrev pub field_held : Entry → FieldRule → Held
field_held fields rule = held_field rule (find rule.name fields)

-- the children of the root
abbrev pub modules_of : ConfigNodes → List ℕ → List Node
modules_of s name = modules_named s.models.now s.config.now s.known.0 name

-- whether a table is of the module at a place
abbrev pub is_owner : ℕ → List ℕ → ModelSet → Bool
is_owner place name models = option_map_or (λ o. o == place) (owner_of name models) false

-- the children of a module
abbrev pub tables_of : ConfigNodes → ℕ → List ℕ → List Node
tables_of s owner name = tables_named s.models.now s.config.now s.known.0 owner name

-- the entry at a place with its shape
abbrev pub shaped_row_of : ConfigNodes → ℕ → ℕ → Option (Row × Shape)
shaped_row_of s table key = shaped_row s.models.now s.config.now s.known.0 table key

-- whether the entry at a place belongs to a shape of that name
abbrev pub is_named_at : ConfigNodes → ℕ → ℕ → List ℕ → Bool
is_named_at s table key name =
    is_shape_named name (shaped_row_of s table key)

-- how many keys the table at a place has
abbrev pub keys_in : ConfigNodes → ℕ → ℕ
keys_in s table = option_map_or (λ p. length p.1) (slice_get s.config.now table) 0

-- the children of a table
abbrev pub entries_of : ConfigNodes → ℕ → List ℕ → List Node
entries_of s table name = entries_named s.models.now s.config.now s.known.0 table name

-- those of them from a key on
abbrev pub entries_behind : ConfigNodes → ℕ → List ℕ → ℕ → List Node
entries_behind s table name from =
    entries_from s.models.now s.config.now s.known.0 table name from (keys_in s table - from)

-- the children of an entry
abbrev pub leaves_of : ConfigNodes → ℕ → ℕ → List ℕ → List Node
leaves_of s table key name = leaves_named s.models.now s.config.now s.known.0 table key name

-- those that are nodes of one leaf
abbrev pub leaf_nodes : ℕ → ℕ → HeldLeaf → List Node
leaf_nodes table key l = held_nodes table key l.leaf (held_of l.held)
