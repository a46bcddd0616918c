-- The first breach among the keys of a table, and among tables.
use Rattle.std.proofs.Common.{◌≡◌, ◌⊎◌, ◌<◌, ◌≤◌, ◌+◌, ℕ, zero, suc, true, List, [], ◌∷◌, Option, Some, None, length, slice_get, is_some, refl, sym, ◌∙◌, subst, inl, inr, arith}
use Rattle.std.proofs.lemmas.Bool.{cases_lt}
use Rattle.conf_doc.specs.declared.configuration.Config.{Config}
use Rattle.conf_doc.specs.declared.configuration.Table.{Table}
use Rattle.yang_model.specs.ModelSets.{ModelSet, table_named}
use Rattle.conf_check.specs.Faults.{IsFirstFault, IsFirstInTable, IsFirstOfTable}
use Rattle.conf_check.specs.NodeTrees.{IsShapedAt, row_of_entry}
use Rattle.conf_check.specs.Rows.{Row, row_at, IsModelledAt}
use Rattle.conf_check.specs.Validity.{Breach, Breaks, BreaksShape, IsBreach, IsBreachBefore, IsFirstViolation, IsRuleBefore, IsValid, rule_number}
use Rattle.conf_check.specs.declared.faults.Fault.{Fault}
use Rattle.conf_check.specs.declared.leaves.ShapedEntry.{ShapedEntry}
use Rattle.conf_check.specs.declared.violations.Violation.{Violation}
use Rattle.conf_check.proofs.EntryFaults.{shape_first}
use Rattle.conf_check.proofs.ItemPlaces.{some_from}
use Rattle.conf_check.proofs.RowPlaces.{past_keys, past_tables}
use Rattle.conf_check.proofs.ShapedEntries.{row_from, row_here}

some_same : {A : Type 0} (x y : A) → Some x ≡ Some y → x ≡ y
some_same x y e = cc

-- what stands at a place of a list
there : {A : Type 0} (xs : List A) (i : ℕ) → i < length xs → (x : A) × (slice_get xs i ≡ Some x)
there [] i lt = absurd (omega arith)
there (x ∷ xs) zero lt = (x, refl)
there (x ∷ xs) (suc i) lt = there xs i (omega arith)

module _ (models : ModelSet) (config : Config) where
  -- what an entry of a shape breaks first it breaks first
  pub entry_first : (t k : ℕ) (e : ShapedEntry) (a : Option Fault) → IsShapedAt models config t k e
      → IsFirstFault (BreaksShape models config t k (row_of_entry e) e.shape.now) a
      → (row : Row) → row_at models config t k ≡ Some row → IsFirstFault (Breaks models config t k row) a
  entry_first t k e a is first row at =
      subst (λ r. IsFirstFault (Breaks models config t k r) a) (some_same (row_of_entry e) row (sym is.at ∙ at))
      (shape_first models config t k (row_of_entry e) e.shape.now is.shaped a first)

  module _ (t : ℕ) where
    abbrev pub NoneBefore : ℕ → Type 0
    NoneBefore key = (b : Breach) → b.table ≡ t → b.key < key → ¬ IsBreach models config b

    pub record BreaksAt (key : ℕ) (b : Breach) : Type 0 where
      pub row : Row
      pub at : row_at models config t key ≡ Some row
      pub breaks : Breaks models config t key row b.rule b.field

    breaks_at : (key : ℕ) (b : Breach) → b.table ≡ t → b.key ≡ key → IsBreach models config b → BreaksAt key b
    breaks_at key b here same broken =
        let P : ℕ → ℕ → Type 0 = λ t k. (row : Row) × (row_at models config t k ≡ Some row) × Breaks models config t k row b.rule b.field in
        let all : P t key = subst (P t) same (subst (λ t. P t b.key) here (broken.row, broken.at, broken.breaks)) in
        record { row = all.0; at = all.1; breaks = all.2 }

    -- none so far, and none here
    pub keys_more : (key : ℕ) → NoneBefore key → ((row : Row) → row_at models config t key ≡ Some row → IsFirstFault (Breaks models config t key row) None)
        → NoneBefore (key + 1)
    keys_more key before none b here lt broken =
        elim (cases_lt b.key key) [
          | inl less ↦ before b here less broken
          | inr more ↦
              let same : b.key ≡ key = omega arith in
              let at = breaks_at key b here same broken in
              none at.row at.at b.rule b.field at.breaks
        ]

    -- the first that is broken
    pub key_first : (key : ℕ) (row : Row) (f : Fault) → NoneBefore key → row_at models config t key ≡ Some row
        → ((row : Row) → row_at models config t key ≡ Some row → IsFirstFault (Breaks models config t key row) (Some f))
        → IsFirstInTable models config t (record { table = t; key = key; field = f.field; rule = rule_number f.rule })
    key_first key row f before at first = record {
      breach = record { table = t; key = key; rule = f.rule; field = f.field };
      is = refl;
      here = refl;
      broken = record { row = row; at = at; breaks = (first row at).0 };
      first = λ a here earlier broken. none a here earlier broken;
    }
      where
        same_key : (a : Breach) → a.table ≡ t → IsBreach models config a
            → (a.key < key) ⊎ ((a.key ≡ key) × IsRuleBefore a.rule a.field f.rule f.field) → ⊥
        same_key a here broken (inl less) = before a here less broken
        same_key a here broken (inr q) =
            let b = breaks_at key a here q.0 broken in
            (first b.row b.at).1 a.rule a.field q.1 b.breaks

        none : (a : Breach) → a.table ≡ t → IsBreachBefore a (record { table = t; key = key; rule = f.rule; field = f.field }) → ¬ IsBreach models config a
        none a here (inl lt) broken = omega arith
        none a here (inr p) broken = same_key a here broken p.1

    pub key_first_at : (key : ℕ) (p : List ℕ × Table) (f : Fault) (r : ℕ) → slice_get config t ≡ Some p → IsModelledAt models config t → key < length p.1
        → r ≡ rule_number f.rule → NoneBefore key
        → ((row : Row) → row_at models config t key ≡ Some row → IsFirstFault (Breaks models config t key row) (Some f))
        → IsFirstInTable models config t (record { table = t; key = key; field = f.field; rule = r })
    key_first_at key p f r at modelled within is before first =
        let entry = there p.1 key within in
        let named = some_from (λ (p : List ℕ × Table). is_some (table_named p.0 models) ≡ true) (slice_get config t) p at modelled in
        let row = row_here models config t key p entry.0 at named entry.1 in
        let P : ℕ → Type 0 = λ r. IsFirstInTable models config t (record { table = t; key = key; field = f.field; rule = r }) in
        subst P (sym is) (key_first key (row_from p entry.0) f before row first)

    -- none at all
    pub keys_none : (key : ℕ) (p : List ℕ × Table) → slice_get config t ≡ Some p → length p.1 ≤ key → NoneBefore key → IsFirstOfTable models config t None
    keys_none key p at past before b here broken =
        elim (cases_lt b.key key) [
          | inl less ↦ before b here less broken
          | inr more ↦
              let at_key = breaks_at b.key b here refl broken in
              past_keys models config t b.key p at (omega arith) at_key.row at_key.at
        ]

  abbrev pub NoTableBefore : ℕ → Type 0
  NoTableBefore t = (b : Breach) → b.table < t → ¬ IsBreach models config b

  pub table_first : (t : ℕ) (v : Violation) → NoTableBefore t → IsFirstInTable models config t v → IsFirstViolation models config v
  table_first t v before in_table = record {
    breach = in_table.breach;
    is = in_table.is;
    broken = in_table.broken;
    first = λ a earlier broken. none a earlier earlier broken;
  }
    where
      none : (a : Breach) → IsBreachBefore a in_table.breach → (a.table < in_table.breach.table)
          ⊎ ((a.table ≡ in_table.breach.table) × ((a.key < in_table.breach.key)
          ⊎ ((a.key ≡ in_table.breach.key) × IsRuleBefore a.rule a.field in_table.breach.rule in_table.breach.field)))
          → ¬ IsBreach models config a
      none a earlier (inl lt) broken = before a (omega (arith, in_table.here)) broken
      none a earlier (inr p) broken = in_table.first a (p.0 ∙ in_table.here) earlier broken

  pub tables_none : (t : ℕ) → length config ≤ t → NoTableBefore t → IsValid models config
  tables_none t past before b broken =
      elim (cases_lt b.table t) [
        | inl less ↦ before b less broken
        | inr more ↦ past_tables models config b.table b.key (omega arith) broken.row broken.at
      ]
