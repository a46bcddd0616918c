-- The text of a want is one of its entry's texts.
use Rattle.std.proofs.Common.{◌≡◌, ◌⊎◌, inl, inr, ℕ, zero, suc, List, [], ◌∷◌, Bool, true, false, cond, String, map, slice_get, Option, Some, None, option_map, option_and_then, refl, ap, ◌∙◌, arith}
use Rattle.std.specs.BTreeSet.{BTreeSet, contains_text}
use Rattle.std.specs.Global.{Global}
use Rattle.std.specs.List.{Contains}
use Rattle.std.specs.Str.{bytes_eq}
use Rattle.std.proofs.lemmas.Slice.Eq.{bytes_eq-Decides}
use Rattle.std.proofs.lemmas.Option.{slice_get-map}
use Rattle.conf_doc.specs.declared.configuration.Config.{Config}
use Rattle.conf_doc.specs.declared.configuration.Entry.{Entry}
use Rattle.conf_doc.specs.declared.configuration.Value.{Value}
use Rattle.conf_doc.specs.declared.configuration.Value.TheVariants.{Text, List as Listed}
use Rattle.conf_doc.proofs.Edits.{same_Some}
use Rattle.conf_check.specs.Rows.{Row, rule_of, texts_by_kind, texts_of, typed_text, typed_texts}
use Rattle.conf_check.specs.Wants.{Want, IsWantedText}
use Rattle.key_split.specs.Key.{key_parts}
use Rattle.yang_model.specs.ModelSets.{ModelSet}
use Rattle.yang_model.specs.declared.shapes.FieldRule.{FieldRule}
use Rattle.yang_model.specs.declared.shapes.KeyLeaf.{KeyLeaf}
use Rattle.yang_model.specs.declared.shapes.Shape.{Shape}
use Rattle.yang_types.specs.DataType.{DataType}
use Rattle.yang_types.specs.DataTypes.{data_type}
use Rattle.ref_index.specs.Texts.{Has, HasFieldText, HasText, texts_of_value}
use Rattle.ref_index.specs.declared.text_sets.TextSet.{TextSet}
use Rattle.ref_index.proofs.NamedEntries.{item_at}

kind_texts : (b : Bool) (v : Value) (ts : List (List ℕ)) → texts_by_kind b v ≡ Some ts → texts_of_value v ≡ ts
kind_texts false (Text t) ts is = same_Some (t ∷ []) ts is
kind_texts true (Listed us) ts is = same_Some us ts is
kind_texts false (Listed us) ts is = cc
kind_texts true (Text t) ts is = cc

module _ (models : ModelSet) (c : Config) (w : Want) where
  part_text : (key : List ℕ) (i : ℕ) (ty : DataType) (o : Option (List ℕ)) → slice_get (key_parts key) i ≡ o
      → IsWantedText models c (option_map (λ s. (ty, s)) o) w → Contains (key_parts key) w.text
  part_text key i ty None at wanted = absurd wanted
  part_text key i ty (Some s) at wanted = item_at (key_parts key) i w.text (at ∙ ap Some wanted.0)

  leaf_text : (key : List ℕ) (i : ℕ) (o : Option KeyLeaf)
      → IsWantedText models c (option_and_then (λ leaf. option_map (λ s. (data_type leaf.ty, s)) (slice_get (key_parts key) i)) o) w → Contains (key_parts key) w.text
  leaf_text key i None wanted = absurd wanted
  leaf_text key i (Some leaf) wanted = part_text key i (data_type leaf.ty) (slice_get (key_parts key) i) refl wanted

  module _ (fields : Entry) (j i : ℕ) where
    abbrev item : DataType × List (List ℕ) → Option (DataType × List ℕ)
    item ts = option_map (λ s. (ts.0, s)) (slice_get ts.1 i)

    item_text : (v : Value) → slice_get (map (λ f. f.1) fields) j ≡ Some v → (ty : DataType) (ts : List (List ℕ)) → texts_of_value v ≡ ts → (o : Option (List ℕ))
        → slice_get ts i ≡ o → IsWantedText models c (option_map (λ s. (ty, s)) o) w → HasFieldText fields w.text
    item_text v at ty ts same None is wanted = absurd wanted
    item_text v at ty ts same (Some s) is wanted =
        record { field = j; value = v; there = at; has = item_at (texts_of_value v) i w.text (ap (λ us. slice_get us i) same ∙ is ∙ ap Some wanted.0) }

    kind_text : (v : Value) → slice_get (map (λ f. f.1) fields) j ≡ Some v → (ty : DataType) (b : Bool) (o : Option (List (List ℕ))) → texts_by_kind b v ≡ o
        → IsWantedText models c (option_and_then item (option_map (λ ts. (ty, ts)) o)) w → HasFieldText fields w.text
    kind_text v at ty b None is wanted = absurd wanted
    kind_text v at ty b (Some ts) is wanted = item_text v at ty ts (kind_texts b v ts is) (slice_get ts i) refl wanted

    rule_text : (v : Value) → slice_get (map (λ f. f.1) fields) j ≡ Some v → (o : Option FieldRule)
        → IsWantedText models c (option_and_then item (option_and_then (λ rule. typed_texts rule v) o)) w → HasFieldText fields w.text
    rule_text v at None wanted = absurd wanted
    rule_text v at (Some rule) wanted = kind_text v at (data_type rule.ty) rule.list (texts_by_kind rule.list v) refl wanted

    field_text : (shape : Shape) (o : Option (List ℕ × Value)) → slice_get fields j ≡ o
        → IsWantedText models c (option_and_then item (option_and_then (texts_of shape) o)) w → HasFieldText fields w.text
    field_text shape None at wanted = absurd wanted
    field_text shape (Some f) at wanted =
        rule_text f.1 (slice_get-map (λ g. g.1) fields j ∙ ap (option_map (λ g. g.1)) at) (rule_of f.0 shape) wanted

  pub wanted_text : (shape : Shape) (row : Row) (f : Option ℕ) (i : ℕ) → IsWantedText models c (typed_text shape row f i) w → HasText row.key row.fields w.text
  wanted_text shape row None i wanted = inl (leaf_text row.key i (slice_get shape.keys i) wanted)
  wanted_text shape row (Some j) i wanted = inr (field_text row.fields j i shape (slice_get row.fields j) refl wanted)

-- ---- sets

-- one text is among itself alone
pub alone : (t s : List ℕ) → Contains (t ∷ []) s → t ≡ s
alone t s (zero, below, is) = is
alone t s (suc i, below, is) = absurd (omega (arith, below))

-- a text that was there or is added is there
pub added_there : (t s : List ℕ) (old : TextSet) (new : BTreeSet (String Global)) → ((q : List ℕ) → contains_text new q ≡ cond (bytes_eq t q) true (contains_text old.texts q))
    → Has old s ⊎ (t ≡ s) → contains_text new s ≡ true
added_there t s old new updates (inl has) = updates s ∙ ap (cond (bytes_eq t s) true) has ∙ either (bytes_eq t s)
  where
    either : (b : Bool) → cond b true true ≡ true
    either true = refl
    either false = refl
added_there t s old new updates (inr same) = updates s ∙ ap (λ b. cond b true (contains_text old.texts s)) ((bytes_eq-Decides t s).1 same)
