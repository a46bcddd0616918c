-- The nodes of a configuration (XPath 1.0, section 5; RFC 7950, section 6.4.1, in a profile).
use Rattle.std.specs.Prelude.{ℕ, zero, suc, ◌-◌, ◌==◌, nat_lt, Bool, true, false, List, [], ◌∷◌, ◌++◌, map, length, Option, Some, None, option_map, option_and_then, slice_get, slice_index_or, if◌then◌else◌}
use Rattle.std.specs.Option.{option_map_or, option_to_list}
use Rattle.std.specs.Str.{bytes_eq}
use Rattle.conf_doc.specs.Pairs.{find}
use Rattle.conf_doc.specs.declared.configuration.Config.{Config}
use Rattle.conf_doc.specs.declared.configuration.Value.{Value}
use Rattle.conf_doc.specs.declared.configuration.Value.TheVariants.{Text, List as Listed}
use Rattle.key_split.specs.Key.{key_parts}
use Rattle.yang_model.specs.ModelSets.{ModelSet, shapes_of, owner_of}
use Rattle.yang_model.specs.Names.{place_of_name}
use Rattle.yang_model.specs.declared.shapes.FieldRule.{FieldRule}
use Rattle.yang_model.specs.declared.shapes.Shape.{Shape}
use Rattle.xpath_part.specs.Nodes.{NodeTree, leaf_level, item_level}
use Rattle.xpath_part.specs.declared.nodes.Node.{Node}
use Rattle.conf_check.specs.Belongings.{Belongings, shape_at}
use Rattle.conf_check.specs.Rows.{Row, row_at}

-- the level of the root
abbrev pub root_level : ℕ
root_level = 0

-- of the container of a module
abbrev pub module_level : ℕ
module_level = 1

-- of the container of a table
abbrev pub table_level : ℕ
table_level = 2

-- of an entry
abbrev pub entry_level : ℕ
entry_level = 3

-- a node of these numbers
abbrev pub node : ℕ → ℕ → ℕ → ℕ → ℕ → Node
node level table key leaf item =
    record { level = level; table = table; key = key; leaf = leaf; item = item }

-- the root
abbrev pub root_node : Node
root_node = node root_level 0 0 0 0

-- the container of a module, by its place among the modules
abbrev pub module_node : ℕ → Node
module_node m = node module_level m 0 0 0

-- the container of a table, by its place in the configuration
abbrev pub table_node : ℕ → Node
table_node t = node table_level t 0 0 0

-- an entry, by its place in the configuration
abbrev pub entry_node : ℕ → ℕ → Node
entry_node t k = node entry_level t k 0 0

-- a leaf, by its place among the key leaves and then the fields of the shape
abbrev pub leaf_node : ℕ → ℕ → ℕ → Node
leaf_node t k l = node leaf_level t k l 0

-- an item of a leaf-list
abbrev pub item_node : ℕ → ℕ → ℕ → ℕ → Node
item_node t k l i = node item_level t k l i

-- what an entry has of a leaf or leaf-list of its shape
pub data Held : Type 0 where
  absent : Held
  one : List ℕ → Held
  items : List (List ℕ) → Held

-- a value by its kind: one of the wrong kind is no node
abbrev pub held_value : Bool → Value → Held
held_value false (Text s) = one s
held_value false (Listed ts) = absent
held_value true (Text s) = absent
held_value true (Listed ts) = items ts

-- a leaf that is absent counts as there with its default
abbrev pub held_default : Option (List ℕ) → Held
held_default None = absent
held_default (Some s) = one s

-- a field by its rule
abbrev pub held_field : FieldRule → Option Value → Held
held_field rule None = held_default rule.default
held_field rule (Some value) = held_value rule.list value

-- the key leaves, then the fields
abbrev pub leaf_names : Shape → List (List ℕ)
leaf_names shape = map (λ k. k.name) shape.keys ++ map (λ f. f.name) shape.fields

-- a key leaf is there with its part of the key
abbrev pub held_part : Row → ℕ → Held
held_part row l = held_default (slice_get (key_parts row.key) l)

-- the leaf at a place
abbrev pub held_at : Row → Shape → ℕ → Held
held_at row shape l =
    if nat_lt l (length shape.keys) then held_part row l
    else option_map_or (λ rule. held_field rule (find rule.name row.fields))
    (slice_get shape.fields (l - length shape.keys)) absent

-- the numbers from one on, as many as asked for
abbrev pub counted_from : ℕ → ℕ → List ℕ
counted_from n zero = []
counted_from n (suc k) = n ∷ counted_from (suc n) k

-- the nodes of a leaf or a leaf-list
abbrev pub held_nodes : ℕ → ℕ → ℕ → Held → List Node
held_nodes t k l absent = []
held_nodes t k l (one s) = leaf_node t k l ∷ []
held_nodes t k l (items ts) = map (item_node t k l) (counted_from 0 (length ts))

-- the text of what is held, or of an item of it
abbrev pub held_text : ℕ → Held → List ℕ
held_text i absent = []
held_text i (one s) = s
held_text i (items ts) = slice_index_or ts i []

-- whether an entry's shape has the name
abbrev pub is_shape_named : List ℕ → Option (Row × Shape) → Bool
is_shape_named name row = option_map_or (λ r. bytes_eq name r.1.name) row false

module _ (models : ModelSet) (config : Config) (belongings : Belongings) where
  -- an entry that belongs to a shape, with the shape
  abbrev pub shaped_row : ℕ → ℕ → Option (Row × Shape)
  shaped_row t k =
      option_and_then
      (λ row. option_map (λ shape. (row, shape))
      (option_and_then (slice_get (shapes_of row.table models)) (shape_at belongings t k)))
      (row_at models config t k)

  -- the container of a module has the module's name
  abbrev pub modules_named : List ℕ → List Node
  modules_named name = option_to_list (option_map module_node (place_of_name name models.modules))

  -- a table that is there stands in the container of its module
  abbrev pub tables_named : ℕ → List ℕ → List Node
  tables_named m name =
      if option_map_or (λ o. o == m) (owner_of name models) false
      then option_to_list (option_map table_node (place_of_name name (map (λ t. t.0) config)))
      else []

  -- the entries of a table whose shape has the name, among so many from a place on
  abbrev pub entries_from : ℕ → List ℕ → ℕ → ℕ → List Node
  entries_from t name k zero = []
  entries_from t name k (suc n) =
      (if is_shape_named name (shaped_row t k) then entry_node t k ∷ [] else [])
      ++ entries_from t name (suc k) n

  abbrev pub entries_named : ℕ → List ℕ → List Node
  entries_named t name =
      entries_from t name 0 (option_map_or (λ p. length p.1) (slice_get config t) 0)

  -- the leaf of a name, or the items of a leaf-list of that name
  abbrev pub leaves_named : ℕ → ℕ → List ℕ → List Node
  leaves_named t k name =
      option_map_or
      (λ r. option_map_or (λ l. held_nodes t k l (held_at r.0 r.1 l))
      (place_of_name name (leaf_names r.1)) [])
      (shaped_row t k) []

  abbrev pub children_of : Node → List ℕ → List Node
  children_of n name =
      if n.level == root_level then modules_named name
      else if n.level == module_level then tables_named n.table name
      else if n.level == table_level then entries_named n.table name
      else if n.level == entry_level then leaves_named n.table n.key name
      else []

  -- the container of the module of a table
  abbrev pub module_of_table : ℕ → Option Node
  module_of_table t =
      option_map module_node (option_and_then (λ p. owner_of p.0 models) (slice_get config t))

  abbrev pub parent_of : Node → Option Node
  parent_of n =
      if n.level == root_level then None
      else if n.level == module_level then Some root_node
      else if n.level == table_level then module_of_table n.table
      else if n.level == entry_level then Some (table_node n.table)
      else Some (entry_node n.table n.key)

  abbrev pub text_of : Node → List ℕ
  text_of n =
      option_map_or (λ r. held_text n.item (held_at r.0 r.1 n.leaf)) (shaped_row n.table n.key) []

  -- the tree
  abbrev pub node_tree : NodeTree
  node_tree =
      record { root = root_node; parent = parent_of; children = children_of; text = text_of }
