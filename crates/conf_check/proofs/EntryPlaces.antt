-- The entry at a place, its names and its shape.
use Rattle.std.proofs.Common.{◌≡◌, ◌≤◌, ℕ, List, Option, Some, None, length, map, slice_get, sym, ◌∙◌, subst}
use Rattle.std.proofs.lemmas.Option.{slice_get_past}
use denote.Ref.{Bor}
use Rattle.conf_doc.specs.declared.configuration.Config.{Config}
use Rattle.conf_doc.specs.declared.configuration.Table.{Table}
use Rattle.yang_model.specs.ModelSets.{ModelSet}
use Rattle.yang_model.specs.declared.shapes.Shape.{Shape}
use Rattle.conf_check.specs.EntryShapes.{IsShapeAt, IsShapeFound}
use Rattle.conf_check.specs.FirstWants.{IsFirstOfEntry}
use Rattle.conf_check.specs.Rows.{row_at, IsEntryAt, HasNoShape}
use Rattle.conf_check.specs.declared.want_iter.WantPlace.{WantPlace}
use Rattle.conf_check.proofs.Places.{left_at, named_at}
use Rattle.conf_check.proofs.TableShapes.{not_both}
use Rattle.conf_check.proofs.ShapedEntries.{StandsAt, stands}

some_same : {A : Type 0} (x y : A) → Some x ≡ Some y → x ≡ y
some_same x y e = cc

not_none : {A : Type 0} (o : Option A) (x : A) → o ≡ None → ¬ (o ≡ Some x)
not_none o x e f = cc

module _ (config : Config) (t k : ℕ) where
  -- none stands past the last table
  pub past_tables : length config ≤ t → (table key : List ℕ) → ¬ IsEntryAt config table key t k
  past_tables past table key at = not_none (slice_get config t) (table, at.entries) (slice_get_past config t past) at.at

  module _ (entries : Table) (part : slice_get (map (λ p. p.1) config) t ≡ Some entries) where
    key_there : (table key : List ℕ) (at : IsEntryAt config table key t k) → slice_get entries k ≡ Some (key, at.fields)
    key_there table key at =
        let named = named_at config t entries part in
        let same = some_same (table, at.entries) (named.0, entries) (sym at.at ∙ named.1) in
        subst (λ (p : List ℕ × Table). slice_get p.1 k ≡ Some (key, at.fields)) same at.at_key

    -- or past the last key of one
    pub past_keys : length entries ≤ k → (table key : List ℕ) → ¬ IsEntryAt config table key t k
    past_keys past table key at = not_none (slice_get entries k) (key, at.fields) (slice_get_past entries k past) (key_there table key at)

    -- the shape of the entry of the names that stand there
    pub shape_there : (models : ModelSet) (name named : List ℕ) (shape : Option (Bor Shape)) → slice_get (map (λ p. p.0) config) t ≡ Some name
        → slice_get (map (λ p. p.0) entries) k ≡ Some named → IsShapeFound models name named shape → IsShapeAt models config t k shape
    shape_there models name named shape name_at key_at found table key at =
        let same : table ≡ name = some_same table name (sym (left_at config t (table, at.entries) at.at) ∙ name_at) in
        let same_key : key ≡ named = some_same key named (sym (left_at entries k (key, at.fields) (key_there table key at)) ∙ key_at) in
        subst (λ n. IsShapeFound models n key shape) (sym same) (subst (λ n. IsShapeFound models name n shape) (sym same_key) found)

-- an entry of no shape has no want
pub none_unshaped : (models : ModelSet) (config : Config) (at : WantPlace) → IsShapeAt models config at.table at.key None → IsFirstOfEntry models config at None
none_unshaped models config at none p w same not wanted =
    let a = subst (λ n. row_at models config n p.key ≡ Some wanted.row) same.0 wanted.at in
    let b = subst (λ n. row_at models config at.table n ≡ Some wanted.row) same.1 a in
    let s : StandsAt models config at.table at.key wanted.row = stands models config at.table at.key wanted.row b in
    let here = none s.table.0 s.entry.0 (record { entries = s.table.1; at = s.at; fields = s.entry.1; at_key = s.at_key }) in
    not_both models wanted.row wanted.shape wanted.shaped (subst (λ r. HasNoShape models r) s.is here)
