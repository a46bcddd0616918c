-- The entry at a place, by what stands there.
use Rattle.std.proofs.Common.{◌≡◌, ◌≤◌, ℕ, Bool, true, false, cond, List, [], Option, Some, None, slice_get, length, option_map, option_and_then, is_some, refl, sym, ap, ◌∙◌}
use Rattle.std.specs.Option.{option_map_or}
use Rattle.std.proofs.lemmas.Option.{slice_get_past}
use Rattle.conf_doc.specs.declared.configuration.Config.{Config}
use Rattle.conf_doc.specs.declared.configuration.Entry.{Entry}
use Rattle.conf_doc.specs.declared.configuration.Table.{Table}
use Rattle.yang_model.specs.Belongs.{Belongs-once}
use Rattle.yang_model.specs.ModelSets.{ModelSet, TableModel, table_named, shapes_of}
use Rattle.yang_model.specs.declared.shapes.Shape.{Shape}
use Rattle.conf_check.specs.Rows.{Row, row_at, row_of, if_modelled, HasShape, IsShapeOf}

-- an entry has one shape
pub shape_once : (models : ModelSet) (table key : List ℕ) (a b : Shape) → IsShapeOf models table key a → IsShapeOf models table key b → a ≡ b
shape_once models table key a b p q =
    let e : Some p.place ≡ Some q.place = Belongs-once (shapes_of table models) key _ _ p.belongs q.belongs in
    let place : p.place ≡ q.place = cc in
    let s : Some a ≡ Some b = sym p.is ∙ ap (slice_get (shapes_of table models)) place ∙ q.is in
    cc

abbrev made_of : List ℕ × Table → List ℕ × Entry → Row
made_of t e = row_of t.0 e.0 e.1

module _ (models : ModelSet) (config : Config) (t k : ℕ) (table : List ℕ × Table) where
  by_cond : (b : Bool) → option_and_then (λ u. option_map (made_of u) (slice_get u.1 k)) (cond b (Some table) None)
      ≡ cond b (option_map (made_of table) (slice_get table.1 k)) None
  by_cond true = refl
  by_cond false = refl

  at_table : slice_get config t ≡ Some table → row_at models config t k ≡ cond (is_some (table_named table.0 models)) (option_map (made_of table) (slice_get table.1 k)) None
  at_table at =
      ap (λ o. option_and_then (λ u. option_map (made_of u) (slice_get u.1 k)) (option_and_then (if_modelled models) o)) at
      ∙ by_cond (is_some (table_named table.0 models))

  no_row : (b : Bool) (r : Row) → cond b None None ≡ Some r → ⊥
  no_row true r e = cc
  no_row false r e = cc

  module _ (entry : List ℕ × Entry) (at : slice_get config t ≡ Some table) (at_key : slice_get table.1 k ≡ Some entry) where
    pub at_entry : row_at models config t k ≡ cond (is_some (table_named table.0 models)) (Some (made_of table entry)) None
    at_entry = at_table at ∙ ap (λ o. cond (is_some (table_named table.0 models)) (option_map (made_of table) o) None) at_key

    only : (b : Bool) (row r : Row) → cond b (Some row) None ≡ Some r → row ≡ r
    only true row r e = cc
    only false row r e = cc

    -- it is the one that stands there
    pub row_only : (r : Row) → row_at models config t k ≡ Some r → made_of table entry ≡ r
    row_only r e = only (is_some (table_named table.0 models)) (made_of table entry) r (sym at_entry ∙ e)

    named : (o : Option TableModel) (place : ℕ) (shape : Shape) → slice_get (option_map_or (λ m. m.shapes) o []) place ≡ Some shape → is_some o ≡ true
    named None place shape e = cc
    named (Some m) place shape e = refl

    -- an entry that belongs to a shape has a model
    pub row_there : (shape : Shape) → HasShape models (made_of table entry) shape → row_at models config t k ≡ Some (made_of table entry)
    row_there shape has =
        at_entry ∙ ap (λ b. cond b (Some (made_of table entry)) None) (named (table_named table.0 models) has.place shape has.is)

  -- no entry stands past the last
  past_keys : slice_get config t ≡ Some table → length table.1 ≤ k → (r : Row) → ¬ (row_at models config t k ≡ Some r)
  past_keys at past r e =
      no_row (is_some (table_named table.0 models)) r
      (sym (at_table at ∙ ap (λ o. cond (is_some (table_named table.0 models)) (option_map (made_of table) o) None) (slice_get_past table.1 k past)) ∙ e)

  unmodelled : (b : Bool) → is_some (table_named table.0 models) ≡ b → (b ≡ true → ⊥) → slice_get config t ≡ Some table → (r : Row) → ¬ (row_at models config t k ≡ Some r)
  unmodelled true is not at r e = not refl
  unmodelled false is not at r e =
      let none : row_at models config t k ≡ None = at_table at ∙ ap (λ b. cond b (option_map (made_of table) (slice_get table.1 k)) None) is in
      let f : None ≡ Some r = sym none ∙ e in
      cc

module _ (models : ModelSet) (config : Config) (t k : ℕ) where
  module _ (name : List ℕ) (entries : Table) (at : slice_get config t ≡ Some (name, entries)) where
    pub no_row_past_keys : length entries ≤ k → (r : Row) → ¬ (row_at models config t k ≡ Some r)
    no_row_past_keys past = past_keys models config t k (name, entries) at past

    -- nor in a table without a model
    pub no_row_unmodelled : (is_some (table_named name models) ≡ true → ⊥) → (r : Row) → ¬ (row_at models config t k ≡ Some r)
    no_row_unmodelled not = unmodelled models config t k (name, entries) (is_some (table_named name models)) refl not at

  -- nor in a table past the last
  pub no_row_past_tables : length config ≤ t → (r : Row) → ¬ (row_at models config t k ≡ Some r)
  no_row_past_tables past r e =
      let none : row_at models config t k ≡ None = ap (λ o. option_and_then (λ (u : List ℕ × Table). option_map (made_of u) (slice_get u.1 k)) (option_and_then (if_modelled models) o)) (slice_get_past config t past) in
      let f : None ≡ Some r = sym none ∙ e in
      cc
