-- The text of a want is one of its entry's texts.
use Rattle.std.proofs.Common.{◌≡◌, inl, inr, ℕ, zero, suc, List, [], ◌∷◌, Bool, true, false, cond, map, slice_get, Contains, Option, Some, None, option_map, option_and_then, is_some, refl, sym, ap, ◌∙◌, subst}
use Rattle.std.proofs.lemmas.Option.{slice_get-map}
use Rattle.conf_doc.specs.Changes.{entry_at}
use Rattle.conf_doc.specs.Pairs.{IsRising, find}
use Rattle.conf_doc.specs.WellFormed.{IsConfig, IsTable}
use Rattle.conf_doc.specs.declared.configuration.Config.{Config}
use Rattle.conf_doc.specs.declared.configuration.Entry.{Entry}
use Rattle.conf_doc.specs.declared.configuration.Table.{Table}
use Rattle.conf_doc.specs.declared.configuration.Value.{Value}
use Rattle.conf_doc.specs.declared.configuration.Value.TheVariants.{Text, List as Listed}
use Rattle.conf_doc.proofs.Edits.{find_at, same_Some}
use Rattle.conf_check.specs.Rows.{IsShapeOf, Row, if_modelled, row_at, row_of, rule_of, texts_by_kind, texts_of, typed_text, typed_texts}
use Rattle.conf_check.specs.Wants.{Want, IsWantedText}
use Rattle.key_split.specs.Key.{key_parts}
use Rattle.yang_model.specs.ModelSets.{ModelSet, table_named}
use Rattle.yang_model.specs.declared.shapes.FieldRule.{FieldRule}
use Rattle.yang_model.specs.declared.shapes.KeyLeaf.{KeyLeaf}
use Rattle.yang_model.specs.declared.shapes.Shape.{Shape}
use Rattle.yang_types.specs.DataType.{DataType}
use Rattle.yang_types.specs.DataTypes.{data_type}
use Rattle.move_extend.specs.Mentions.{BreaksOnly, GivesOfEntry, HasFieldText, HasText, MayMention, texts_of_value}
use Rattle.move_extend.specs.declared.changes.Change.{Change}
use Rattle.move_extend.specs.declared.mentions.Gone.{Gone}
use Rattle.move_core.specs.declared.moves.Move.{Move}
use Rattle.move_extend.proofs.DistinctLists.{item_at}
use Rattle.move_extend.proofs.NonemptyNames.{part_at}

-- ---- pairs

-- the name and the part at an index are the pair there
pub pair_at : {A : Type 0} (ps : List (List ℕ × A)) (i : ℕ) (n : List ℕ) (a : A) → slice_get (map (λ p. p.0) ps) i ≡ Some n → slice_get (map (λ p. p.1) ps) i ≡ Some a
    → slice_get ps i ≡ Some (n, a)
pair_at [] i n a named there = cc
pair_at {A} (p ∷ ps) zero n a named there =
    subst (λ m. Some p ≡ Some (m, a)) (same_Some p.0 n named) (subst (λ (b : A). Some p ≡ Some (p.0, b)) (same_Some p.1 a there) refl)
pair_at (p ∷ ps) (suc i) n a named there = pair_at ps i n a named there

-- a name finds the part that it stands beside
pub finds_part : {A : Type 0} (ps : List (List ℕ × A)) (i : ℕ) (p : List ℕ × A) → IsRising ps → slice_get ps i ≡ Some p → find p.0 ps ≡ Some p.1
finds_part ps i p rising at =
    find_at ps p.0 i rising (slice_get-map (λ q. q.0) ps i ∙ ap (option_map (λ q. q.0)) at)
    ∙ slice_get-map (λ q. q.1) ps i ∙ ap (option_map (λ q. q.1)) at

-- the entry at positions is found by its names
pub entry_stands : (c : Config) (i j : ℕ) (t : List ℕ × Table) (e : List ℕ × Entry) → IsConfig c → slice_get c i ≡ Some t → slice_get t.1 j ≡ Some e → entry_at c t.0 e.0 ≡ Some e.1
entry_stands c i j t e well at at_key =
    let formed : IsTable t.1 = part_at IsTable c i t well.parts at in
    ap (option_and_then (find e.0)) (finds_part c i t well.shaped.rising at) ∙ finds_part t.1 j e formed.shaped.rising at_key

-- ---- rows

-- a row is what stands at its positions
pub record Stands (c : Config) (i j : ℕ) (row : Row) : Type 0 where
  pub entries : Table
  pub at : slice_get c i ≡ Some (row.table, entries)
  pub at_key : slice_get entries j ≡ Some (row.key, row.fields)

abbrev row_in : ℕ → List ℕ × Table → Option Row
row_in j t = option_map (λ e. record { table = t.0; key = e.0; fields = e.1 }) (slice_get t.1 j)

module _ (models : ModelSet) (c : Config) (i j : ℕ) (row : Row) where
  of_entry : (t : List ℕ × Table) → slice_get c i ≡ Some t → (o : Option (List ℕ × Entry)) → slice_get t.1 j ≡ o
      → option_map (λ e. row_of t.0 e.0 e.1) o ≡ Some row → Stands c i j row
  of_entry t at None at_key is = cc
  of_entry t at (Some e) at_key is =
      subst (Stands c i j) (same_Some (row_of t.0 e.0 e.1) row is) (record { entries = t.1; at = at; at_key = at_key })

  of_model : (t : List ℕ × Table) → slice_get c i ≡ Some t → (b : Bool) → option_and_then (row_in j) (cond b (Some t) None) ≡ Some row → Stands c i j row
  of_model t at false is = cc
  of_model t at true is = of_entry t at (slice_get t.1 j) refl is

  of_table : (o : Option (List ℕ × Table)) → slice_get c i ≡ o → option_and_then (row_in j) (option_and_then (if_modelled models) o) ≡ Some row → Stands c i j row
  of_table None at is = cc
  of_table (Some t) at is = of_model t at (is_some (table_named t.0 models)) is

  pub row_stands : row_at models c i j ≡ Some row → Stands c i j row
  row_stands is = of_table (slice_get c i) refl is

-- ---- texts

kind_texts : (b : Bool) (v : Value) (ts : List (List ℕ)) → texts_by_kind b v ≡ Some ts → texts_of_value v ≡ ts
kind_texts false (Text t) ts is = same_Some (t ∷ []) ts is
kind_texts true (Listed us) ts is = same_Some us ts is
kind_texts false (Listed us) ts is = cc
kind_texts true (Text t) ts is = cc

module _ (models : ModelSet) (c : Config) (w : Want) where
  part_text : (key : List ℕ) (i : ℕ) (ty : DataType) (o : Option (List ℕ)) → slice_get (key_parts key) i ≡ o
      → IsWantedText models c (option_map (λ s. (ty, s)) o) w → Contains (key_parts key) w.text
  part_text key i ty None at wanted = absurd wanted
  part_text key i ty (Some s) at wanted = item_at (key_parts key) i w.text (at ∙ ap Some wanted.0)

  leaf_text : (key : List ℕ) (i : ℕ) (o : Option KeyLeaf)
      → IsWantedText models c (option_and_then (λ leaf. option_map (λ s. (data_type leaf.ty, s)) (slice_get (key_parts key) i)) o) w → Contains (key_parts key) w.text
  leaf_text key i None wanted = absurd wanted
  leaf_text key i (Some leaf) wanted = part_text key i (data_type leaf.ty) (slice_get (key_parts key) i) refl wanted

  module _ (fields : Entry) (j i : ℕ) where
    item_text : (v : Value) → slice_get (map (λ f. f.1) fields) j ≡ Some v → (ty : DataType) (ts : List (List ℕ)) → texts_of_value v ≡ ts → (o : Option (List ℕ))
        → slice_get ts i ≡ o → IsWantedText models c (option_map (λ s. (ty, s)) o) w → HasFieldText fields w.text
    item_text v at ty ts same None is wanted = absurd wanted
    item_text v at ty ts same (Some s) is wanted =
        record { field = j; value = v; has = (at, item_at (texts_of_value v) i w.text (ap (λ us. slice_get us i) same ∙ is ∙ ap Some wanted.0)) }

    kind_text : (v : Value) → slice_get (map (λ f. f.1) fields) j ≡ Some v → (ty : DataType) (b : Bool) (o : Option (List (List ℕ))) → texts_by_kind b v ≡ o
        → IsWantedText models c (option_and_then (λ (ts : DataType × List (List ℕ)). option_map (λ s. (ts.0, s)) (slice_get ts.1 i)) (option_map (λ ts. (ty, ts)) o)) w
        → HasFieldText fields w.text
    kind_text v at ty b None is wanted = absurd wanted
    kind_text v at ty b (Some ts) is wanted = item_text v at ty ts (kind_texts b v ts is) (slice_get ts i) refl wanted

    rule_text : (v : Value) → slice_get (map (λ f. f.1) fields) j ≡ Some v → (o : Option FieldRule)
        → IsWantedText models c (option_and_then (λ (ts : DataType × List (List ℕ)). option_map (λ s. (ts.0, s)) (slice_get ts.1 i)) (option_and_then (λ rule. typed_texts rule v) o)) w
        → HasFieldText fields w.text
    rule_text v at None wanted = absurd wanted
    rule_text v at (Some rule) wanted = kind_text v at (data_type rule.ty) rule.list (texts_by_kind rule.list v) refl wanted

    field_text : (shape : Shape) (o : Option (List ℕ × Value)) → slice_get fields j ≡ o
        → IsWantedText models c (option_and_then (λ (ts : DataType × List (List ℕ)). option_map (λ s. (ts.0, s)) (slice_get ts.1 i)) (option_and_then (texts_of shape) o)) w
        → HasFieldText fields w.text
    field_text shape None at wanted = absurd wanted
    field_text shape (Some f) at wanted =
        rule_text f.1 (slice_get-map (λ g. g.1) fields j ∙ ap (option_map (λ g. g.1)) at) (rule_of f.0 shape) wanted

  wanted_text : (shape : Shape) (row : Row) (f : Option ℕ) (i : ℕ) → IsWantedText models c (typed_text shape row f i) w → HasText row.key row.fields w.text
  wanted_text shape row None i wanted = inl (leaf_text row.key i (slice_get shape.keys i) wanted)
  wanted_text shape row (Some j) i wanted = inr (field_text row.fields j i shape (slice_get row.fields j) refl wanted)

-- the entry of a broken want belongs to a shape
pub shaped_entry : (c : Change) (t u k : List ℕ) (x : Move) → GivesOfEntry c t u k x → (shape : Shape) × IsShapeOf c.models.now u k shape
shaped_entry c t u k x gives =
    let given = gives.given in
    let at = gives.at in
    let row : Row = given.wanted.row in
    let shape : Shape = given.wanted.shape in
    let stands : Stands c.cur.now given.at.table given.at.key row = row_stands c.models.now c.cur.now given.at.table given.at.key row given.wanted.at in
    let tables : (u, at.entries) ≡ (row.table, stands.entries) = same_Some (u, at.entries) (row.table, stands.entries) (sym at.at ∙ stands.at) in
    let at_key : slice_get at.entries given.at.key ≡ Some (row.key, row.fields) =
    subst (λ (p : List ℕ × Table). slice_get p.1 given.at.key ≡ Some (row.key, row.fields)) (sym tables) stands.at_key in
    let entries : (row.key, row.fields) ≡ (k, at.fields) = same_Some (row.key, row.fields) (k, at.fields) (sym at_key ∙ at.at_key) in
    let of_table : IsShapeOf c.models.now u row.key shape =
    subst (λ (p : List ℕ × Table). IsShapeOf c.models.now p.0 row.key shape) (sym tables) given.wanted.shaped in
    (shape, subst (λ (p : List ℕ × Entry). IsShapeOf c.models.now u p.0 shape) entries of_table)

-- an entry of which a broken want is has a text that the keys that are lost may have
pub mentioned : (c : Change) (gone : Gone) (u k : List ℕ) (fields : Entry) (x : Move) → IsConfig c.cur.now → entry_at c.cur.now u k ≡ Some fields → BreaksOnly c gone
    → GivesOfEntry c gone.table.now u k x → MayMention gone k fields
mentioned c gone u k fields x well there only gives =
    let given = gives.given in
    let at = gives.at in
    let row : Row = given.wanted.row in
    let stands : Stands c.cur.now given.at.table given.at.key row = row_stands c.models.now c.cur.now given.at.table given.at.key row given.wanted.at in
    let tables : (u, at.entries) ≡ (row.table, stands.entries) = same_Some (u, at.entries) (row.table, stands.entries) (sym at.at ∙ stands.at) in
    let at_key : slice_get at.entries given.at.key ≡ Some (row.key, row.fields) =
    subst (λ (p : List ℕ × Table). slice_get p.1 given.at.key ≡ Some (row.key, row.fields)) (sym tables) stands.at_key in
    let entries : (row.key, row.fields) ≡ (k, at.fields) = same_Some (row.key, row.fields) (k, at.fields) (sym at_key ∙ at.at_key) in
    let found : entry_at c.cur.now u k ≡ Some at.fields = entry_stands c.cur.now given.at.table given.at.key (u, at.entries) (k, at.fields) well at.at at.at_key in
    let same : at.fields ≡ fields = same_Some at.fields fields (sym found ∙ there) in
    let has : HasText row.key row.fields given.want.text = wanted_text c.models.now c.cur.now given.want given.wanted.shape row given.at.field given.at.item given.wanted.wanted in
    record {
      text = given.want.text;
      may = only given.at given.want given.wanted given.broken;
      has = subst (λ fs. HasText k fs given.want.text) same (subst (λ (p : List ℕ × Entry). HasText p.0 p.1 given.want.text) entries has);
    }
