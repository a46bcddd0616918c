-- What is first among what a value, a field, the fields and an entry break.
use Rattle.std.proofs.Common.{◌≡◌, ◌<◌, ◌≤◌, ◌+◌, ℕ, Bool, List, Option, Some, None, Any, length, slice_get, option_map, option_and_then, IsSomeAnd, refl, sym, ◌∙◌, subst, inl, inr, arith}
use Rattle.std.proofs.lemmas.Bool.{cases_lt}
use Rattle.std.proofs.lemmas.Option.{slice_get_past}
use Rattle.conf_doc.specs.declared.configuration.Config.{Config}
use Rattle.conf_doc.specs.declared.configuration.Entry.{Entry}
use Rattle.conf_doc.specs.declared.configuration.Value.{Value}
use Rattle.yang_model.specs.ModelSets.{ModelSet}
use Rattle.yang_model.specs.declared.shapes.FieldRule.{FieldRule}
use Rattle.yang_model.specs.declared.shapes.Shape.{Shape}
use Rattle.yang_types.specs.DataType.{DataType}
use Rattle.yang_types.specs.DataTypes.{data_type}
use Rattle.conf_check.specs.Faults.{IsFirstRule, IsFirstFault, FieldBreaks, ValueBreaks, TextsBreak, FieldsBreak}
use Rattle.conf_check.specs.Rows.{rule_of, texts_by_kind, typed_texts}
use Rattle.conf_check.specs.Validity.{IsRefused, AreSomeEqual, stage}
use Rattle.conf_check.specs.declared.violations.RuleName.{RuleName}
use Rattle.conf_check.specs.declared.violations.RuleName.TheVariants.{KeyShape, KeyReference, UnknownField, WrongKind, BadValue, DuplicateItem, MissingField, Must}

-- the same rules are broken, so the same one is first
pub first_rule-map : (P Q : RuleName → Type 0) (a : Option RuleName) → ((r : RuleName) → P r → Q r) → ((r : RuleName) → Q r → P r) → IsFirstRule P a → IsFirstRule Q a
first_rule-map P Q None to from none = λ r q. none r (from r q)
first_rule-map P Q (Some r) to from first = (to r first.0, λ q lt b. first.1 q lt (from q b))

abbrev paired : DataType → List (List ℕ) → DataType × List (List ℕ)
paired type us = (type, us)

module _ (models : ModelSet) (config : Config) where
  -- a value of the right kind breaks what its texts break
  to_value : (type : DataType) (list : Bool) (value : Value) (ts : List (List ℕ)) → texts_by_kind list value ≡ Some ts
      → (r : RuleName) → TextsBreak models config type ts r → ValueBreaks models config type list value r
  to_value type list value ts is KeyShape b = b
  to_value type list value ts is KeyReference b = b
  to_value type list value ts is UnknownField b = b
  to_value type list value ts is WrongKind b = absurd b
  to_value type list value ts is BadValue b =
      let P : Option (List (List ℕ)) → Type 0 = λ o. IsSomeAnd {T = DataType × List (List ℕ)} (option_map (paired type) o) (λ us. Any (λ s. IsRefused models config (us.0, s)) us.1) in
      subst P (sym is) b
  to_value type list value ts is DuplicateItem b =
      let P : Option (List (List ℕ)) → Type 0 = λ o. IsSomeAnd {T = DataType × List (List ℕ)} (option_map (paired type) o) (λ us. AreSomeEqual us.1) in
      subst P (sym is) b
  to_value type list value ts is MissingField b = b
  to_value type list value ts is Must b = b

  from_value : (type : DataType) (list : Bool) (value : Value) (ts : List (List ℕ)) → texts_by_kind list value ≡ Some ts
      → (r : RuleName) → ValueBreaks models config type list value r → TextsBreak models config type ts r
  from_value type list value ts is KeyShape b = b
  from_value type list value ts is KeyReference b = b
  from_value type list value ts is UnknownField b = b
  from_value type list value ts is WrongKind b = let e : Some ts ≡ None = sym is ∙ b in cc
  from_value type list value ts is BadValue b =
      let P : Option (List (List ℕ)) → Type 0 = λ o. IsSomeAnd {T = DataType × List (List ℕ)} (option_map (paired type) o) (λ us. Any (λ s. IsRefused models config (us.0, s)) us.1) in
      subst P is b
  from_value type list value ts is DuplicateItem b =
      let P : Option (List (List ℕ)) → Type 0 = λ o. IsSomeAnd {T = DataType × List (List ℕ)} (option_map (paired type) o) (λ us. AreSomeEqual us.1) in
      subst P is b
  from_value type list value ts is MissingField b = b
  from_value type list value ts is Must b = b

  pub value_first : (type : DataType) (list : Bool) (value : Value) (ts : List (List ℕ)) (a : Option RuleName) → texts_by_kind list value ≡ Some ts
      → IsFirstRule (TextsBreak models config type ts) a → IsFirstRule (ValueBreaks models config type list value) a
  value_first type list value ts a is first =
      first_rule-map _ _ a (to_value type list value ts is) (from_value type list value ts is) first

  module _ (shape : Shape) (field : List ℕ × Value) where
    to_field : (rule : FieldRule) → rule_of field.0 shape ≡ Some rule → (r : RuleName)
        → ValueBreaks models config (data_type rule.ty) rule.list field.1 r → FieldBreaks models config shape field r
    to_field rule is KeyShape b = b
    to_field rule is KeyReference b = b
    to_field rule is UnknownField b = absurd b
    to_field rule is WrongKind b =
        let P : Option FieldRule → Type 0 = λ o. IsSomeAnd o (λ rule. texts_by_kind rule.list field.1 ≡ None) in
        subst P (sym is) b
    to_field rule is BadValue b =
        let P : Option FieldRule → Type 0 = λ o. IsSomeAnd (option_and_then (λ rule. typed_texts rule field.1) o) (λ ts. Any (λ s. IsRefused models config (ts.0, s)) ts.1) in
        subst P (sym is) b
    to_field rule is DuplicateItem b =
        let P : Option FieldRule → Type 0 = λ o. IsSomeAnd (option_and_then (λ rule. typed_texts rule field.1) o) (λ ts. AreSomeEqual ts.1) in
        subst P (sym is) b
    to_field rule is MissingField b = b
    to_field rule is Must b = b

    from_field : (rule : FieldRule) → rule_of field.0 shape ≡ Some rule → (r : RuleName)
        → FieldBreaks models config shape field r → ValueBreaks models config (data_type rule.ty) rule.list field.1 r
    from_field rule is KeyShape b = b
    from_field rule is KeyReference b = b
    from_field rule is UnknownField b = let e : Some rule ≡ None = sym is ∙ b in cc
    from_field rule is WrongKind b =
        let P : Option FieldRule → Type 0 = λ o. IsSomeAnd o (λ rule. texts_by_kind rule.list field.1 ≡ None) in
        subst P is b
    from_field rule is BadValue b =
        let P : Option FieldRule → Type 0 = λ o. IsSomeAnd (option_and_then (λ rule. typed_texts rule field.1) o) (λ ts. Any (λ s. IsRefused models config (ts.0, s)) ts.1) in
        subst P is b
    from_field rule is DuplicateItem b =
        let P : Option FieldRule → Type 0 = λ o. IsSomeAnd (option_and_then (λ rule. typed_texts rule field.1) o) (λ ts. AreSomeEqual ts.1) in
        subst P is b
    from_field rule is MissingField b = b
    from_field rule is Must b = b

    -- a field of the shape breaks what its value breaks
    pub field_first : (rule : FieldRule) (a : Option RuleName) → rule_of field.0 shape ≡ Some rule
        → IsFirstRule (ValueBreaks models config (data_type rule.ty) rule.list field.1) a → IsFirstRule (FieldBreaks models config shape field) a
    field_first rule a is first = first_rule-map _ _ a (to_field rule is) (from_field rule is) first

    -- what a field breaks is tried among the rules of fields
    pub field_stage : (r : RuleName) → FieldBreaks models config shape field r → stage r ≡ 2
    field_stage KeyShape b = absurd b
    field_stage KeyReference b = absurd b
    field_stage UnknownField b = refl
    field_stage WrongKind b = refl
    field_stage BadValue b = refl
    field_stage DuplicateItem b = refl
    field_stage MissingField b = absurd b
    field_stage Must b = absurd b

  module _ (shape : Shape) (fields : Entry) where
    fields_at : (r : RuleName) (n : ℕ) (f : List ℕ × Value) → slice_get fields n ≡ Some f
        → FieldsBreak models config shape fields r n → FieldBreaks models config shape f r
    fields_at r n f at b =
        let P : Option (List ℕ × Value) → Type 0 = λ o. IsSomeAnd o (λ f. FieldBreaks models config shape f r) in
        subst P at b

    some_stage : (r : RuleName) (o : Option (List ℕ × Value)) → IsSomeAnd o (λ f. FieldBreaks models config shape f r) → stage r ≡ 2
    some_stage r None b = absurd b
    some_stage r (Some f) b = field_stage shape f r b

    pub fields_stage : (r : RuleName) (n : ℕ) → FieldsBreak models config shape fields r n → stage r ≡ 2
    fields_stage r n b = some_stage r (slice_get fields n) b

    -- a field that breaks nothing, after others that break nothing
    pub fields_more : (i : ℕ) (f : List ℕ × Value) → slice_get fields i ≡ Some f → IsFirstRule (FieldBreaks models config shape f) None
        → ((r : RuleName) (n : ℕ) → n < i → ¬ FieldsBreak models config shape fields r n)
        → (r : RuleName) (n : ℕ) → n < i + 1 → ¬ FieldsBreak models config shape fields r n
    fields_more i f at none before r n lt b =
        elim (cases_lt n i) [
          | inl less ↦ before r n less b
          | inr more ↦
              let same : n ≡ i = omega arith in
              none r (fields_at r i f at (subst (λ k. FieldsBreak models config shape fields r k) same b))
        ]

    past_fields : (r : RuleName) (o : Option (List ℕ × Value)) → o ≡ None → ¬ IsSomeAnd o (λ f. FieldBreaks models config shape f r)
    past_fields r None is b = b
    past_fields r (Some f) is b = cc

    -- no field breaks anything
    pub fields_none : (i : ℕ) → length fields ≤ i → ((r : RuleName) (n : ℕ) → n < i → ¬ FieldsBreak models config shape fields r n)
        → IsFirstFault (FieldsBreak models config shape fields) None
    fields_none i past before r n b =
        elim (cases_lt n i) [
          | inl less ↦ before r n less b
          | inr more ↦ past_fields r (slice_get fields n) (slice_get_past fields n (omega arith)) b
        ]
