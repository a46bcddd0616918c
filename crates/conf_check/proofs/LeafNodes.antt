-- The nodes of the leaves of an entry.
use Rattle.std.proofs.Common.{◌≡◌, ◌+◌, ◌<◌, ◌≤◌, ℕ, false, List, [], Option, Some, None, option_map, map, length, slice_get, refl, sym, ap, ◌∙◌, arith, add-one}
use Rattle.std.specs.Option.{option_map_or}
use Rattle.std.specs.Str.{bytes_eq}
use Rattle.std.proofs.lemmas.Option.{slice_get_past, slice_get-map}
use Rattle.yang_model.specs.Names.{place_of_name}
use Rattle.yang_model.specs.declared.shapes.Shape.{Shape}
use Rattle.xpath_part.specs.declared.nodes.Node.{Node}
use Rattle.conf_check.specs.ConfigTree.{Held, absent, one, items, counted_from, held_at, held_nodes, held_text, is_shape_named, item_node, leaf_names}
use Rattle.conf_check.specs.NodeTrees.{IsShapedAt, held_of, is_named_at, leaves_of, row_of_entry, shaped_row_of}
use Rattle.conf_check.specs.Rows.{Row, row_at, HasNoShape}
use Rattle.conf_check.specs.declared.config_nodes.ConfigNodes.{ConfigNodes}
use Rattle.conf_check.specs.declared.leaves.HeldText.{HeldText}
use Rattle.conf_check.specs.declared.leaves.ShapedEntry.{ShapedEntry}
use Rattle.conf_check.proofs.NodeLists.{counted_at, counted_length}
use Rattle.conf_check.proofs.ShapedEntries.{entry_shaped, entry_unshaped}

some_same : {A : Type 0} (x y : A) → Some x ≡ Some y → x ≡ y
some_same x y e = cc

module _ (t k l : ℕ) where
  abbrev item : ℕ → Node
  item i = item_node t k l i

  pub item_at : (n i : ℕ) → i < n → Some (item i) ≡ slice_get (map item (counted_from 0 n)) i
  item_at n i lt = let e : 0 + i ≡ i = omega arith in sym (counted_at item 0 n i lt ∙ ap (λ j. Some (item j)) e)

  pub no_item : (n i : ℕ) → n ≤ i → None ≡ slice_get (map item (counted_from 0 n)) i
  no_item n i past = sym (slice_get_past (map item (counted_from 0 n)) i (omega (arith, counted_length item 0 n)))

  item_level : (o : Option ℕ) (x : Node) → option_map item o ≡ Some x → x.level ≡ 5
  item_level None x e = cc
  item_level (Some i) x e = ap (λ (n : Node). n.level) (sym (some_same (item i) x e))

  held_last : (h : Held) (i : ℕ) (x : Node) → x.level ≡ 4 → slice_get (held_nodes t k l h) i ≡ Some x → None ≡ slice_get (held_nodes t k l h) (i + 1)
  held_last absent i x leaf at = refl
  held_last (one s) i x leaf at = rw add-one refl
  held_last (items ts) i x leaf at =
      absurd (omega (arith, item_level (slice_get (counted_from 0 (length ts)) i) x (sym (slice_get-map item (counted_from 0 (length ts)) i) ∙ at)))

module _ (t k : ℕ) (name : List ℕ) where
  abbrev leaves_at : Row × Shape → Option ℕ → List Node
  leaves_at r o = option_map_or (λ l. held_nodes t k l (held_at r.0 r.1 l)) o []

  abbrev leaves_in : Option (Row × Shape) → List Node
  leaves_in r = option_map_or (λ r. leaves_at r (place_of_name name (leaf_names r.1))) r []

  place_last : (r : Row × Shape) (o : Option ℕ) (i : ℕ) (x : Node) → x.level ≡ 4 → slice_get (leaves_at r o) i ≡ Some x → None ≡ slice_get (leaves_at r o) (i + 1)
  place_last r None i x leaf at = refl
  place_last r (Some l) i x leaf at = held_last t k l (held_at r.0 r.1 l) i x leaf at

  last_in : (r : Option (Row × Shape)) (i : ℕ) (x : Node) → x.level ≡ 4 → slice_get (leaves_in r) i ≡ Some x → None ≡ slice_get (leaves_in r) (i + 1)
  last_in None i x leaf at = refl
  last_in (Some r) i x leaf at = place_last r (place_of_name name (leaf_names r.1)) i x leaf at

module _ (s : ConfigNodes) (t k : ℕ) where
  -- behind a leaf there is none
  pub leaf_last : (name : List ℕ) (i : ℕ) (x : Node) → x.level ≡ 4 → slice_get (leaves_of s t k name) i ≡ Some x → None ≡ slice_get (leaves_of s t k name) (i + 1)
  leaf_last name i x leaf at = last_in t k name (shaped_row_of s t k) i x leaf at

  -- an entry of a shape
  module _ (e : ShapedEntry) (is : IsShapedAt s.models.now s.config.now t k e) where
    pub row_shaped : shaped_row_of s t k ≡ Some (row_of_entry e, e.shape.now)
    row_shaped = entry_shaped s.models.now s.config.now t k s.known.0 s.known.1 (row_of_entry e) e.shape.now is.at is.shaped

    pub named_shaped : (name : List ℕ) → bytes_eq name e.shape.now.name ≡ is_named_at s t k name
    named_shaped name = sym (ap (is_shape_named name) row_shaped)

    pub leaves_unnamed : (name : List ℕ) → None ≡ place_of_name name (leaf_names e.shape.now) → [] ≡ leaves_of s t k name
    leaves_unnamed name none =
        sym (ap (leaves_in t k name) row_shaped ∙ ap (leaves_at t k name (row_of_entry e, e.shape.now)) (sym none))

    pub leaves_held : (name : List ℕ) (l : ℕ) (h : HeldText) → Some l ≡ place_of_name name (leaf_names e.shape.now)
        → held_of h ≡ held_at (row_of_entry e) e.shape.now l → held_nodes t k l (held_of h) ≡ leaves_of s t k name
    leaves_held name l h at is_held =
        ap (held_nodes t k l) is_held
        ∙ sym (ap (leaves_in t k name) row_shaped ∙ ap (leaves_at t k name (row_of_entry e, e.shape.now)) (sym at))

    pub text_held : (l i : ℕ) (h : HeldText) → held_of h ≡ held_at (row_of_entry e) e.shape.now l
        → held_text i (held_of h) ≡ option_map_or (λ r. held_text i (held_at r.0 r.1 l)) (shaped_row_of s t k) []
    text_held l i h is_held =
        ap (held_text i) is_held ∙ sym (ap (λ (o : Option (Row × Shape)). option_map_or (λ r. held_text i (held_at r.0 r.1 l)) o []) row_shaped)

  -- none of a shape
  module _ (none : (row : Row) → row_at s.models.now s.config.now t k ≡ Some row → HasNoShape s.models.now row) where
    row_unshaped : shaped_row_of s t k ≡ None
    row_unshaped = entry_unshaped s.models.now s.config.now t k s.known.0 s.known.1 none

    pub named_unshaped : (name : List ℕ) → false ≡ is_named_at s t k name
    named_unshaped name = sym (ap (is_shape_named name) row_unshaped)

    pub leaves_unshaped : (name : List ℕ) → [] ≡ leaves_of s t k name
    leaves_unshaped name = sym (ap (leaves_in t k name) row_unshaped)

    pub text_unshaped : (l i : ℕ) → [] ≡ option_map_or (λ r. held_text i (held_at r.0 r.1 l)) (shaped_row_of s t k) []
    text_unshaped l i = sym (ap (λ (o : Option (Row × Shape)). option_map_or (λ r. held_text i (held_at r.0 r.1 l)) o []) row_unshaped)
