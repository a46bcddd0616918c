-- The nodes of a configuration by models with the flat forms of their types: the nodes by the models.
use Rattle.std.proofs.Common.{◌≡◌, ◌↔◌, ◌==◌, ℕ, zero, suc, List, [], ◌∷◌, ◌++◌, map, length, Option, Some, None, option_map, option_and_then, slice_get, refl, ap, ◌∙◌}
use Rattle.std.specs.Prelude.{◌-◌, nat_lt, false, if◌then◌else◌}
use Rattle.std.specs.List.{AllZip}
use Rattle.std.specs.Option.{option_map_or, option_to_list}
use Rattle.std.proofs.lemmas.List.{length-map}
use Rattle.conf_doc.specs.Pairs.{find}
use Rattle.conf_doc.specs.declared.configuration.Config.{Config}
use Rattle.conf_doc.specs.declared.configuration.Entry.{Entry}
use Rattle.conf_doc.specs.declared.configuration.Table.{Table}
use Rattle.conf_doc.specs.declared.configuration.Value.{Value}
use Rattle.xpath_part.specs.declared.nodes.Node.{Node}
use Rattle.yang_model.specs.Belongs.{Belongs}
use Rattle.yang_model.specs.FlatModels.{flat_key, flat_field, flat_shape, flat_models}
use Rattle.yang_model.specs.ModelSets.{ModelSet, owner_of, shapes_of}
use Rattle.yang_model.specs.Names.{place_of_name}
use Rattle.yang_model.specs.declared.shapes.FieldRule.{FieldRule}
use Rattle.yang_model.specs.declared.shapes.KeyLeaf.{KeyLeaf}
use Rattle.yang_model.specs.declared.shapes.Shape.{Shape}
use Rattle.conf_check.specs.Belongings.{Belongings, AreBelongings, AreBelongingsOf, shape_at}
use Rattle.conf_check.specs.ConfigTree.{Held, absent, children_of, entries_from, entry_level, entry_node, held_at, held_field, held_nodes, held_part, held_text, is_shape_named, leaf_names, leaves_named, module_level, module_node, modules_named, node_tree, parent_of, root_level, root_node, shaped_row, table_level, table_node, tables_named}
use Rattle.conf_check.specs.Rows.{Row, row_at}
use Rattle.conf_check.proofs.FlatModels.{at_map, belongs_flat, owner_flat, row_flat, same_both, shapes_flat}

-- ---- what an entry has of its leaves

names_map : {X : Type 0} (f : X → X) (name : X → List ℕ) → ((x : X) → name (f x) ≡ name x) → (xs : List X) → map name (map f xs) ≡ map name xs
names_map f name same [] = refl
names_map f name same (x ∷ xs) = λ i. same x i ∷ names_map f name same xs i

leaf_names_flat : (s : Shape) → leaf_names (flat_shape s) ≡ leaf_names s
leaf_names_flat s =
    let keys = names_map flat_key (λ (k : KeyLeaf). k.name) (λ k. refl) s.keys in
    let fields = names_map flat_field (λ (f : FieldRule). f.name) (λ f. refl) s.fields in
    λ i. keys i ++ fields i

held_same : (rule : FieldRule) (o : Option Value) → held_field (flat_field rule) o ≡ held_field rule o
held_same rule None = refl
held_same rule (Some value) = refl

module _ (row : Row) (s : Shape) (l : ℕ) where
  abbrev of_rule : FieldRule → Held
  of_rule rule = held_field rule (find rule.name row.fields)

  rule_held : (o : Option FieldRule) → option_map_or of_rule (option_map flat_field o) absent ≡ option_map_or of_rule o absent
  rule_held None = refl
  rule_held (Some rule) = held_same rule (find rule.name row.fields)

  held_flat : held_at row (flat_shape s) l ≡ held_at row s l
  held_flat =
      ap (λ (n : ℕ). if nat_lt l n then held_part row l else option_map_or of_rule (slice_get (map flat_field s.fields) (l - n)) absent) (length-map s.keys flat_key)
      ∙ ap (λ (h : Held). if nat_lt l (length s.keys) then held_part row l else h)
      (ap (λ (o : Option FieldRule). option_map_or of_rule o absent) (at_map flat_field s.fields (l - length s.keys)) ∙ rule_held (slice_get s.fields (l - length s.keys)))

-- ---- belongings

zip_both : {A B : Type 0} (R S : A → B → Type 0) → ((a : A) (b : B) → R a b ↔ S a b) → (xs : List A) (ys : List B) → AllZip R xs ys ↔ AllZip S xs ys
zip_both R S each [] [] = same_both
zip_both R S each [] (y ∷ ys) = same_both
zip_both R S each (x ∷ xs) [] = same_both
zip_both R S each (x ∷ xs) (y ∷ ys) =
    let one = each x y in
    let rest = zip_both R S each xs ys in
    (λ h. (one.0 h.0, rest.0 h.1), λ h. (one.1 h.0, rest.1 h.1))

abbrev of_entry : ModelSet → List ℕ → List ℕ × Entry → Option ℕ → Type 0
of_entry models name e answer = Belongs (shapes_of name models) e.0 answer

abbrev of_table : ModelSet → List ℕ × Table → List (Option ℕ) → Type 0
of_table models t answers = AreBelongingsOf models t.0 t.1 answers

module _ (models : ModelSet) (config : Config) where
  pub belongings_flat : (b : Belongings) → AreBelongings (flat_models models) config b ↔ AreBelongings models config b
  belongings_flat b =
      zip_both (of_table (flat_models models)) (of_table models)
      (λ t answers.
      zip_both (of_entry (flat_models models) t.0) (of_entry models t.0) (λ e answer. belongs_flat models t.0 e.0 answer) t.1 answers)
      config b

-- ---- nodes

abbrev with_row : Row → Shape → Row × Shape
with_row row shape = (row, shape)

abbrev flat_row : Row × Shape → Row × Shape
flat_row r = (r.0, flat_shape r.1)

module _ (models : ModelSet) (config : Config) (b : Belongings) where
  abbrev with_shape : ModelSet → Row → Option ℕ → Option (Row × Shape)
  with_shape ms row o = option_map (with_row row) (option_and_then (slice_get (shapes_of row.table ms)) o)

  shape_of_row : (row : Row) (o : Option ℕ) → with_shape (flat_models models) row o ≡ option_map flat_row (with_shape models row o)
  shape_of_row row None = refl
  shape_of_row row (Some n) =
      ap (λ (ss : List Shape). option_map (with_row row) (slice_get ss n)) (shapes_flat models row.table)
      ∙ ap (option_map (with_row row)) (at_map flat_shape (shapes_of row.table models) n)
      ∙ by (slice_get (shapes_of row.table models) n)
    where
      by : (o : Option Shape) → option_map (with_row row) (option_map flat_shape o) ≡ option_map flat_row (option_map (with_row row) o)
      by None = refl
      by (Some shape) = refl

  shaped_flat : (t k : ℕ) → shaped_row (flat_models models) config b t k ≡ option_map flat_row (shaped_row models config b t k)
  shaped_flat t k =
      ap (option_and_then (λ (row : Row). with_shape (flat_models models) row (shape_at b t k))) (row_flat models config t k)
      ∙ by (row_at models config t k)
    where
      by : (o : Option Row) → option_and_then (λ (row : Row). with_shape (flat_models models) row (shape_at b t k)) o
          ≡ option_map flat_row (option_and_then (λ (row : Row). with_shape models row (shape_at b t k)) o)
      by None = refl
      by (Some row) = shape_of_row row (shape_at b t k)

  named_flat : (t k : ℕ) (name : List ℕ) → is_shape_named name (shaped_row (flat_models models) config b t k) ≡ is_shape_named name (shaped_row models config b t k)
  named_flat t k name = ap (is_shape_named name) (shaped_flat t k) ∙ by (shaped_row models config b t k)
    where
      by : (o : Option (Row × Shape)) → is_shape_named name (option_map flat_row o) ≡ is_shape_named name o
      by None = refl
      by (Some r) = refl

  entries_flat : (t : ℕ) (name : List ℕ) (k n : ℕ) → entries_from (flat_models models) config b t name k n ≡ entries_from models config b t name k n
  entries_flat t name k zero = refl
  entries_flat t name k (suc n) =
      let here = named_flat t k name in
      let rest = entries_flat t name (suc k) n in
      λ i. (if here i then entry_node t k ∷ [] else []) ++ rest i

  abbrev leaves_of : ℕ → ℕ → List ℕ → Row × Shape → List Node
  leaves_of t k name r = option_map_or (λ l. held_nodes t k l (held_at r.0 r.1 l)) (place_of_name name (leaf_names r.1)) []

  abbrev text_at : ℕ → ℕ → Row × Shape → List ℕ
  text_at l n r = held_text n (held_at r.0 r.1 l)

  leaves_flat : (t k : ℕ) (name : List ℕ) → leaves_named (flat_models models) config b t k name ≡ leaves_named models config b t k name
  leaves_flat t k name = ap (λ (o : Option (Row × Shape)). option_map_or (leaves_of t k name) o []) (shaped_flat t k) ∙ by (shaped_row models config b t k)
    where
      by : (o : Option (Row × Shape)) → option_map_or (leaves_of t k name) (option_map flat_row o) [] ≡ option_map_or (leaves_of t k name) o []
      by None = refl
      by (Some r) =
          let names = leaf_names_flat r.1 in
          λ i. option_map_or (λ l. held_nodes t k l (held_flat r.0 r.1 l i)) (place_of_name name (names i)) []

  texts_same : (t k l n : ℕ) → option_map_or (text_at l n) (shaped_row (flat_models models) config b t k) [] ≡ option_map_or (text_at l n) (shaped_row models config b t k) []
  texts_same t k l n = ap (λ (o : Option (Row × Shape)). option_map_or (text_at l n) o []) (shaped_flat t k) ∙ by (shaped_row models config b t k)
    where
      by : (o : Option (Row × Shape)) → option_map_or (text_at l n) (option_map flat_row o) [] ≡ option_map_or (text_at l n) o []
      by None = refl
      by (Some r) = ap (held_text n) (held_flat r.0 r.1 l)

  tables_flat : (m : ℕ) (name : List ℕ) → tables_named (flat_models models) config b m name ≡ tables_named models config b m name
  tables_flat m name =
      ap (λ (o : Option ℕ). if option_map_or (λ n. n == m) o false then option_to_list (option_map table_node (place_of_name name (map (λ t. t.0) config))) else [])
      (owner_flat models name)

  module_flat : (t : ℕ) → option_map module_node (option_and_then (λ (p : List ℕ × Table). owner_of p.0 (flat_models models)) (slice_get config t))
      ≡ option_map module_node (option_and_then (λ (p : List ℕ × Table). owner_of p.0 models) (slice_get config t))
  module_flat t = λ i. option_map module_node (option_and_then (λ (p : List ℕ × Table). owner_flat models p.0 i) (slice_get config t))

  children_flat : (n : Node) (name : List ℕ) → children_of (flat_models models) config b n name ≡ children_of models config b n name
  children_flat n name =
      let tables = tables_flat n.table name in
      let entries = entries_flat n.table name 0 (option_map_or (λ (p : List ℕ × Table). length p.1) (slice_get config n.table) 0) in
      let leaves = leaves_flat n.table n.key name in
      λ i.
      if n.level == root_level then modules_named models config b name
      else if n.level == module_level then tables i
      else if n.level == table_level then entries i
      else if n.level == entry_level then leaves i
      else []

  parent_flat : (n : Node) → parent_of (flat_models models) config b n ≡ parent_of models config b n
  parent_flat n =
      let owner = module_flat n.table in
      λ i.
      if n.level == root_level then None
      else if n.level == module_level then Some root_node
      else if n.level == table_level then owner i
      else if n.level == entry_level then Some (table_node n.table)
      else Some (entry_node n.table n.key)

  pub tree_flat : node_tree (flat_models models) config b ≡ node_tree models config b
  tree_flat = λ i. record {
    root = root_node;
    parent = λ n. parent_flat n i;
    children = λ n name. children_flat n name i;
    text = λ n. texts_same n.table n.key n.leaf n.item i;
  }
