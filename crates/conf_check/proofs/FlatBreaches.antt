-- Which rules a configuration breaks by models with the flat forms of their types: those that it breaks by the models.
use Rattle.std.proofs.Common.{◌≡◌, ◌↔◌, ℕ, List, Option, Some, None, option_map, slice_get, refl, sym, ◌∙◌, subst}
use Rattle.std.specs.Prelude.{IsSomeAnd}
use Rattle.std.specs.List.{Any}
use Rattle.conf_doc.specs.declared.configuration.Config.{Config}
use Rattle.conf_doc.specs.declared.configuration.Value.{Value}
use Rattle.xpath_part.specs.Nodes.{NodeTree}
use Rattle.yang_types.specs.DataType.{DataType}
use Rattle.yang_model.specs.FlatModels.{flat_field, flat_shape, flat_models}
use Rattle.yang_model.specs.ModelSets.{ModelSet}
use Rattle.yang_model.specs.declared.shapes.FieldRule.{FieldRule}
use Rattle.yang_model.specs.declared.shapes.MustRule.{MustRule}
use Rattle.yang_model.specs.declared.shapes.Shape.{Shape}
use Rattle.conf_check.specs.ConfigTree.{entry_node}
use Rattle.conf_check.specs.Rows.{Row, rule_of, texts_by_kind, texts_of, typed_part}
use Rattle.conf_check.specs.Validity.{AreSomeEqual, Breach, Breaks, no_shape, of_shape, BreaksShape, HasBadItem, HasEqualItems, IsBreach, IsFalse, IsFalseIn, IsMissing, IsOfWrongKind, IsRefused, IsUnknownField, IsValid}
use Rattle.conf_check.specs.declared.violations.RuleName.{RuleName}
use Rattle.conf_check.specs.declared.violations.RuleName.TheVariants.{KeyShape, KeyReference, UnknownField, WrongKind, BadValue, DuplicateItem, MissingField, Must}
use Rattle.conf_check.proofs.FlatModels.{accepted_flat, along, at_map, belongs_flat, flat_typed, part_typed, row_flat, rule_flat, same_both, shape_from, shape_to, some_both, texts_flat, then_both}
use Rattle.conf_check.proofs.FlatTrees.{belongings_flat, tree_flat}

-- a rule of a field, or none
none_both : (o : Option FieldRule) → (option_map flat_field o ≡ None) ↔ (o ≡ None)
none_both None = (λ e. refl, λ e. refl)
none_both (Some rule) = (λ e. absurd (some_none (flat_field rule) e), λ e. absurd (some_none rule e))
  where
    some_none : (r : FieldRule) → ¬ (Some r ≡ None)
    some_none r e = cc

module _ (models : ModelSet) (config : Config) where
  refused_flat : (t : DataType) (s : List ℕ) → IsRefused (flat_models models) config (flat_typed (t, s)) ↔ IsRefused models config (t, s)
  refused_flat t s =
      let both = accepted_flat models config t s in
      (λ not a. not (both.1 a), λ not a. not (both.0 a))

  some_refused : (t : DataType) (texts : List (List ℕ))
      → Any (λ s. IsRefused (flat_models models) config (flat_typed (t, s))) texts ↔ Any (λ s. IsRefused models config (t, s)) texts
  some_refused t texts = (
    λ h. (h.0, h.1, h.2, h.3, (refused_flat t h.1).0 h.4),
    λ h. (h.0, h.1, h.2, h.3, (refused_flat t h.1).1 h.4),
  )

  -- a field, by what its rule says
  module _ (shape : Shape) (field : List ℕ × Value) where
    unknown_flat : IsUnknownField (flat_shape shape) field ↔ IsUnknownField shape field
    unknown_flat =
        then_both (along (λ (o : Option FieldRule). o ≡ None) (rule_of field.0 (flat_shape shape)) (option_map flat_field (rule_of field.0 shape)) (rule_flat shape field.0))
        (none_both (rule_of field.0 shape))

    kind_flat : IsOfWrongKind (flat_shape shape) field ↔ IsOfWrongKind shape field
    kind_flat =
        let K : FieldRule → Type 0 = λ rule. texts_by_kind rule.list field.1 ≡ None in
        then_both (along (λ (o : Option FieldRule). IsSomeAnd o K) (rule_of field.0 (flat_shape shape)) (option_map flat_field (rule_of field.0 shape)) (rule_flat shape field.0))
        (some_both flat_field K K (λ rule. same_both) (rule_of field.0 shape))

    -- by what is said of its texts
    texts_both : (P Q : DataType × List (List ℕ) → Type 0) → ((ts : DataType × List (List ℕ)) → P (flat_typed ts) ↔ Q ts)
        → IsSomeAnd (texts_of (flat_shape shape) field) P ↔ IsSomeAnd (texts_of shape field) Q
    texts_both P Q each =
        then_both (along (λ (o : Option (DataType × List (List ℕ))). IsSomeAnd o P) (texts_of (flat_shape shape) field) (option_map flat_typed (texts_of shape field)) (texts_flat shape field))
        (some_both flat_typed P Q each (texts_of shape field))

    bad_flat : HasBadItem (flat_models models) config (flat_shape shape) field ↔ HasBadItem models config shape field
    bad_flat =
        texts_both (λ ts. Any (λ s. IsRefused (flat_models models) config (ts.0, s)) ts.1) (λ ts. Any (λ s. IsRefused models config (ts.0, s)) ts.1)
        (λ ts. some_refused ts.0 ts.1)

    equal_flat : HasEqualItems (flat_shape shape) field ↔ HasEqualItems shape field
    equal_flat = texts_both (λ ts. AreSomeEqual ts.1) (λ ts. AreSomeEqual ts.1) (λ ts. same_both)

  false_flat : (t k : ℕ) (must : MustRule) → IsFalse (flat_models models) config t k must ↔ IsFalse models config t k must
  false_flat t k must =
      let P : NodeTree → Type 0 = λ tree. IsFalseIn tree (entry_node t k) must in (
        λ h b are. subst P (tree_flat models config b) (h b ((belongings_flat models config b).1 are)),
        λ h b are. subst P (sym (tree_flat models config b)) (h b ((belongings_flat models config b).0 are)),
      )

  each_field : {A : Type 0} (P Q : A → Type 0) → ((x : A) → P x ↔ Q x) → (o : Option A) → IsSomeAnd o P ↔ IsSomeAnd o Q
  each_field P Q each None = same_both
  each_field P Q each (Some x) = each x

  module _ (t k : ℕ) (row : Row) where
    shape_breaks : (shape : Shape) (rule : RuleName) (n : ℕ)
        → BreaksShape (flat_models models) config t k row (flat_shape shape) rule n ↔ BreaksShape models config t k row shape rule n
    shape_breaks shape KeyShape n = same_both
    shape_breaks shape KeyReference n =
        then_both (along (λ (o : Option (DataType × List ℕ)). IsSomeAnd o (IsRefused (flat_models models) config)) (typed_part (flat_shape shape) row.key n) (option_map flat_typed (typed_part shape row.key n)) (part_typed shape row.key n))
        (some_both flat_typed (IsRefused (flat_models models) config) (IsRefused models config) (λ p. refused_flat p.0 p.1) (typed_part shape row.key n))
    shape_breaks shape UnknownField n = each_field (IsUnknownField (flat_shape shape)) (IsUnknownField shape) (unknown_flat shape) (slice_get row.fields n)
    shape_breaks shape WrongKind n = each_field (IsOfWrongKind (flat_shape shape)) (IsOfWrongKind shape) (kind_flat shape) (slice_get row.fields n)
    shape_breaks shape BadValue n = each_field (HasBadItem (flat_models models) config (flat_shape shape)) (HasBadItem models config shape) (bad_flat shape) (slice_get row.fields n)
    shape_breaks shape DuplicateItem n = each_field (HasEqualItems (flat_shape shape)) (HasEqualItems shape) (equal_flat shape) (slice_get row.fields n)
    shape_breaks shape MissingField n =
        then_both (along (λ (o : Option FieldRule). IsSomeAnd o (IsMissing row.fields)) (slice_get (flat_shape shape).fields n) (option_map flat_field (slice_get shape.fields n)) (at_map flat_field shape.fields n))
        (some_both flat_field (IsMissing row.fields) (IsMissing row.fields) (λ rule. same_both) (slice_get shape.fields n))
    shape_breaks shape Must n = each_field (IsFalse (flat_models models) config t k) (IsFalse models config t k) (false_flat t k) (slice_get shape.musts n)

    breaks_from : (rule : RuleName) (n : ℕ) → Breaks (flat_models models) config t k row rule n → Breaks models config t k row rule n
    breaks_from rule n (no_shape none is at_zero) = no_shape ((belongs_flat models row.table row.key None).0 none) is at_zero
    breaks_from rule n (of_shape shape has broken) =
        let found = shape_from models row shape has in
        let P : Shape → Type 0 = λ s. BreaksShape (flat_models models) config t k row s rule n in
        of_shape found.shape found.shaped ((shape_breaks found.shape rule n).0 (subst P found.is broken))

    breaks_to : (rule : RuleName) (n : ℕ) → Breaks models config t k row rule n → Breaks (flat_models models) config t k row rule n
    breaks_to rule n (no_shape none is at_zero) = no_shape ((belongs_flat models row.table row.key None).1 none) is at_zero
    breaks_to rule n (of_shape shape has broken) =
        of_shape (flat_shape shape) (shape_to models row shape has) ((shape_breaks shape rule n).1 broken)

  pub breach_flat : (b : Breach) → IsBreach (flat_models models) config b ↔ IsBreach models config b
  breach_flat b = (
    λ h. record {
      row = h.row;
      at = sym (row_flat models config b.table b.key) ∙ h.at;
      breaks = breaks_from b.table b.key h.row b.rule b.field h.breaks;
    },
    λ h. record {
      row = h.row;
      at = row_flat models config b.table b.key ∙ h.at;
      breaks = breaks_to b.table b.key h.row b.rule b.field h.breaks;
    },
  )

  pub valid_flat : IsValid (flat_models models) config ↔ IsValid models config
  valid_flat = (λ h b broken. h b ((breach_flat b).1 broken), λ h b broken. h b ((breach_flat b).0 broken))
