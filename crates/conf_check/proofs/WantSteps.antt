-- The first want, from one place to the next.
use Rattle.std.proofs.Common.{◌≡◌, ◌<◌, ◌≤◌, ◌+◌, ℕ, List, Option, Some, None, slice_get, option_map, option_and_then, sym, ap, ◌∙◌, subst, inl, inr, arith}
use Rattle.std.proofs.lemmas.Bool.{cases_lt}
use Rattle.conf_doc.specs.declared.configuration.Config.{Config}
use Rattle.conf_doc.specs.declared.configuration.Value.{Value}
use Rattle.yang_model.specs.ModelSets.{ModelSet}
use Rattle.yang_model.specs.declared.shapes.FieldRule.{FieldRule}
use Rattle.yang_model.specs.declared.shapes.Shape.{Shape}
use Rattle.yang_types.specs.DataType.{DataType}
use Rattle.yang_types.specs.DataTypes.{data_type}
use Rattle.conf_check.specs.FirstWants.{IsFirstFrom, IsWantedItem, item_of}
use Rattle.conf_check.specs.Rows.{rule_of, texts_by_kind, typed_texts}
use Rattle.conf_check.specs.Wants.{Want, want_of, IsWantedText}
use Rattle.conf_check.specs.declared.first_wants.ItemWant.{ItemWant}

module _ (W : ℕ → Want → Type 0) (from : ℕ) where
  abbrev pub NoneBefore : ℕ → Type 0
  NoneBefore i = (j : ℕ) (w : Want) → from ≤ j → j < i → ¬ W j w

  -- none so far, and none here
  pub none_more : (i : ℕ) → NoneBefore i → ((w : Want) → ¬ W i w) → NoneBefore (i + 1)
  none_more i before here j w ge lt wanted =
      elim (cases_lt j i) [
        | inl less ↦ before j w ge less wanted
        | inr more ↦
            let same : j ≡ i = omega arith in
            here w (subst (λ n. W n w) same wanted)
      ]

module _ (models : ModelSet) (config : Config) where
  -- a text of the same type has the same wants
  pub typed_as : (a b : Option (DataType × List ℕ)) (w : Want) → a ≡ b → IsWantedText models config a w → IsWantedText models config b w
  typed_as a b w same wanted = subst (λ o. IsWantedText models config o w) same wanted

  abbrev with_type : DataType → List ℕ → DataType × List ℕ
  with_type type s = (type, s)

  abbrev typed_by : DataType → List (List ℕ) → DataType × List (List ℕ)
  typed_by type us = (type, us)

  -- answers to equal questions
  pub first_as : (a b : ℕ → Option (DataType × List ℕ)) (from : ℕ) (o : Option ItemWant) → ((i : ℕ) → a i ≡ b i)
      → IsFirstFrom (λ i. IsWantedText models config (a i)) from o → IsFirstFrom (λ i. IsWantedText models config (b i)) from o
  first_as a b from None same none = λ i w ge wanted. none i w ge (typed_as (b i) (a i) w (sym (same i)) wanted)
  first_as a b from (Some f) same first = (
    first.0,
    typed_as (a f.item) (b f.item) (want_of f.want) (same f.item) first.1,
    λ i w ge lt wanted. first.2 i w ge lt (typed_as (b i) (a i) w (sym (same i)) wanted),
  )

  abbrev items_typed : DataType × List (List ℕ) → ℕ → Option (DataType × List ℕ)
  items_typed ts i = option_map (with_type ts.0) (slice_get ts.1 i)

  abbrev item_in : ℕ → DataType × List (List ℕ) → Option (DataType × List ℕ)
  item_in i ts = items_typed ts i

  -- the items of a field of a rule
  pub item_of_rule : (shape : Shape) (field : List ℕ × Value) (rule : FieldRule) (ts : List (List ℕ)) → rule_of field.0 shape ≡ Some rule
      → texts_by_kind rule.list field.1 ≡ Some ts → (i : ℕ) → option_map (with_type (data_type rule.ty)) (slice_get ts i) ≡ item_of shape field i
  item_of_rule shape field rule ts is kind i =
      sym
      (ap (λ o. option_and_then (item_in i) (option_and_then (λ r. typed_texts r field.1) o)) is
      ∙ ap (λ o. option_and_then (item_in i) (option_map (typed_by (data_type rule.ty)) o)) kind)

  -- a field of a rule wants what its texts want
  pub field_first : (shape : Shape) (field : List ℕ × Value) (rule : FieldRule) (ts : List (List ℕ)) (from : ℕ) (o : Option ItemWant)
      → rule_of field.0 shape ≡ Some rule → texts_by_kind rule.list field.1 ≡ Some ts
      → IsFirstFrom (IsWantedItem models config (data_type rule.ty) ts) from o
      → IsFirstFrom (λ i. IsWantedText models config (item_of shape field i)) from o
  field_first shape field rule ts from o is kind first =
      first_as (λ i. option_map (with_type (data_type rule.ty)) (slice_get ts i)) (item_of shape field) from o (item_of_rule shape field rule ts is kind) first
