-- The entry at a place with its shape, as the nodes have it.
use Rattle.std.proofs.Common.{◌≡◌, ◌==◌, ℕ, Bool, true, false, cond, List, Option, Some, None, option_map, option_and_then, slice_get, is_some, IsSome, refl, sym, ap, ◌∙◌, subst}
use Rattle.std.specs.Coded.{Coded-set, coded_option, coded_ℕ}
use Rattle.std.specs.Option.{option_map_or}
use Rattle.std.proofs.Math.Logic.{∥∥₁_elim}
use Rattle.conf_doc.specs.declared.configuration.Config.{Config}
use Rattle.conf_doc.specs.declared.configuration.Entry.{Entry}
use Rattle.conf_doc.specs.declared.configuration.Table.{Table}
use Rattle.yang_model.specs.Belongs.{Belongs}
use Rattle.yang_model.specs.ModelSets.{ModelSet, TableModel, table_named, shapes_of, owner_of}
use Rattle.yang_model.specs.declared.shapes.Shape.{Shape}
use Rattle.conf_check.specs.Belongings.{Belongings, AreBelongings, shape_at}
use Rattle.conf_check.specs.ConfigTree.{module_node, module_of_table, shaped_row}
use Rattle.conf_check.specs.Rows.{Row, row_of, row_at, if_modelled, HasShape, HasNoShape}
use Rattle.conf_check.proofs.EntryShapes.{belongings_at}

some_same : {A : Type 0} (x y : A) → Some x ≡ Some y → x ≡ y
some_same x y e = cc

abbrev pub row_from : List ℕ × Table → List ℕ × Entry → Row
row_from p e = row_of p.0 e.0 e.1

module _ (models : ModelSet) (config : Config) (t k : ℕ) where
  -- what stands at a place
  pub record StandsAt (row : Row) : Type 0 where
    pub table : List ℕ × Table
    pub at : slice_get config t ≡ Some table
    pub modelled : is_some (table_named table.0 models) ≡ true
    pub entry : List ℕ × Entry
    pub at_key : slice_get table.1 k ≡ Some entry
    pub is : row_from table entry ≡ row

  abbrev rows_of : List ℕ × Table → Option Row
  rows_of p = option_map (row_from p) (slice_get p.1 k)

  module _ (row : Row) where
    key_stands : (p : List ℕ × Table) → slice_get config t ≡ Some p → is_some (table_named p.0 models) ≡ true
        → (o : Option (List ℕ × Entry)) → slice_get p.1 k ≡ o → option_map (row_from p) o ≡ Some row → StandsAt row
    key_stands p at modelled None at_key e = cc
    key_stands p at modelled (Some x) at_key e =
        record { table = p; at = at; modelled = modelled; entry = x; at_key = at_key; is = some_same (row_from p x) row e }

    table_stands : (p : List ℕ × Table) → slice_get config t ≡ Some p → (b : Bool) → is_some (table_named p.0 models) ≡ b
        → option_and_then rows_of (cond b (Some p) None) ≡ Some row → StandsAt row
    table_stands p at true modelled e = key_stands p at modelled (slice_get p.1 k) refl e
    table_stands p at false modelled e = cc

    stands_by : (o : Option (List ℕ × Table)) → slice_get config t ≡ o → option_and_then rows_of (option_and_then (if_modelled models) o) ≡ Some row → StandsAt row
    stands_by None at e = cc
    stands_by (Some p) at e = table_stands p at (is_some (table_named p.0 models)) refl e

    pub stands : row_at models config t k ≡ Some row → StandsAt row
    stands e = stands_by (slice_get config t) refl e

  -- what stands in a table that has a model is an entry
  pub row_here : (p : List ℕ × Table) (e : List ℕ × Entry) → slice_get config t ≡ Some p → is_some (table_named p.0 models) ≡ true
      → slice_get p.1 k ≡ Some e → row_at models config t k ≡ Some (row_from p e)
  row_here p e at modelled at_key =
      ap (λ o. option_and_then rows_of (option_and_then (if_modelled models) o)) at
      ∙ ap (λ b. option_and_then rows_of (cond b (Some p) None)) modelled
      ∙ ap (option_map (row_from p)) at_key

  module _ (b : Belongings) (all : ∥ AreBelongings models config b ∥₁) where
    shape_is : (row : Row) (o : Option ℕ) → row_at models config t k ≡ Some row → Belongs (shapes_of row.table models) row.key o → shape_at b t k ≡ o
    shape_is row o at belongs =
        let s = stands row at in
        let P : Row → Type 0 = λ r. Belongs (shapes_of r.table models) r.key o in
        ∥∥₁_elim all (Coded-set (coded_option coded_ℕ) (shape_at b t k) o)
        (λ a. belongings_at models config b t k s.table s.entry o a s.at s.at_key (subst P (sym s.is) belongs))

    abbrev with_shape : Option Row → Option ℕ → Option (Row × Shape)
    with_shape r s =
        option_and_then (λ row. option_map (λ (shape : Shape). (row, shape)) (option_and_then (slice_get (shapes_of row.table models)) s)) r

    -- an entry of a shape is there with it
    pub entry_shaped : (row : Row) (shape : Shape) → row_at models config t k ≡ Some row → HasShape models row shape
        → shaped_row models config b t k ≡ Some (row, shape)
    entry_shaped row shape at has =
        ap (λ r. with_shape r (shape_at b t k)) at
        ∙ ap (with_shape (Some row)) (shape_is row (Some has.place) at has.belongs)
        ∙ ap (option_map (λ (shape : Shape). (row, shape))) has.is

    none_shaped : (o : Option Row) → row_at models config t k ≡ o → ((row : Row) → row_at models config t k ≡ Some row → HasNoShape models row)
        → with_shape o (shape_at b t k) ≡ None
    none_shaped None at none = refl
    none_shaped (Some row) at none = ap (with_shape (Some row)) (shape_is row None at (none row at))

    -- one of no shape isn't
    pub entry_unshaped : ((row : Row) → row_at models config t k ≡ Some row → HasNoShape models row) → shaped_row models config b t k ≡ None
    entry_unshaped none = none_shaped (row_at models config t k) refl none

-- tables that have a model stand in the container of a module
module _ (models : ModelSet) (config : Config) (b : Belongings) (t : ℕ) where
  owned : (o : Option TableModel) → is_some o ≡ true → is_some (option_map module_node (option_map (λ (m : TableModel). m.owner) o)) ≡ true
  owned None e = cc
  owned (Some m) e = refl

  pub table_module : (p : List ℕ × Table) → slice_get config t ≡ Some p → is_some (table_named p.0 models) ≡ true
      → IsSome (module_of_table models config b t)
  table_module p at modelled =
      ap (λ o. is_some (option_map module_node (option_and_then (λ (p : List ℕ × Table). owner_of p.0 models) o))) at
      ∙ owned (table_named p.0 models) modelled

  pub row_module : (k : ℕ) (row : Row) → row_at models config t k ≡ Some row → IsSome (module_of_table models config b t)
  row_module k row at = let s = stands models config t k row at in table_module s.table s.at s.modelled

owner_named : (o : Option TableModel) (m : ℕ) → option_map_or (λ o. o == m) (option_map (λ (m : TableModel). m.owner) o) false ≡ true → is_some o ≡ true
owner_named None m e = cc
owner_named (Some t) m e = refl

-- a table of a module has a model
pub owner_modelled : (models : ModelSet) (name : List ℕ) (m : ℕ) → option_map_or (λ o. o == m) (owner_of name models) false ≡ true
    → is_some (table_named name models) ≡ true
owner_modelled models name m e = owner_named (table_named name models) m e
