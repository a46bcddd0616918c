-- The first breach of one entry.
use Rattle.std.proofs.Common.{◌≡◌, ℕ, true, List, Some, None, is_some, refl, subst, inl, inr, arith}
use Rattle.conf_doc.specs.declared.configuration.Config.{Config}
use Rattle.yang_model.specs.ModelSets.{ModelSet, table_named}
use Rattle.conf_check.specs.Faults.{IsFirstHere, breach_at}
use Rattle.conf_check.specs.Rows.{Row, row_at, IsEntryAt, IsPlaceOfEntry}
use Rattle.conf_check.specs.Validity.{Breach, Breaks, IsBreachAt, IsBreachBefore, IsFirstViolationAt, IsValidAt, violation_of}
use Rattle.conf_check.specs.declared.faults.Fault.{Fault}
use Rattle.conf_check.specs.declared.violations.Violation.{Violation}
use Rattle.conf_check.proofs.ShapedEntries.{row_from, row_here}

some_same : {A : Type 0} (x y : A) → Some x ≡ Some y → x ≡ y
some_same x y e = cc

module _ (models : ModelSet) (config : Config) (table key : List ℕ) where
  -- an entry that isn't there breaks nothing
  pub absent_valid : IsPlaceOfEntry config table key None → IsValidAt models config table key
  absent_valid absent b broken = absent b.table b.key broken.entry

  module _ (t k : ℕ) (placed : IsPlaceOfEntry config table key (Some (t, k))) where
    -- the rules that a breach breaks are broken at the place
    breaks_here : (b : Breach) → IsBreachAt models config table key b
        → (row : Row) × (row_at models config t k ≡ Some row) × Breaks models config t k row b.rule b.field
    breaks_here b broken =
        let same = (placed b.table b.key).0 broken.entry in
        let P : ℕ → ℕ → Type 0 = λ t k. (row : Row) × (row_at models config t k ≡ Some row) × Breaks models config t k row b.rule b.field in
        subst (P t) same.1 (subst (λ n. P n b.key) same.0 (broken.broken.row, broken.broken.at, broken.broken.breaks))

    pub none_valid : IsFirstHere models config t k None
        → IsValidAt models config table key
    none_valid none b broken =
        let here = breaks_here b broken in
        none here.0 here.1 b.rule b.field here.2

    entry_here : IsEntryAt config table key t k
    entry_here = (placed t k).1 (refl, refl)

    abbrev row : Row
    row = row_from (table, entry_here.entries) (key, entry_here.fields)

    pub first_broken : is_some (table_named table models) ≡ true → (f : Fault) (v : Violation) → v ≡ violation_of (breach_at t k f)
        → IsFirstHere models config t k (Some f)
        → IsFirstViolationAt models config table key v
    first_broken modelled f v is first = record {
      breach = breach_at t k f;
      is = is;
      broken = record { entry = entry_here; broken = record { row = row; at = at; breaks = (first row at).0 } };
      first = none;
    }
      where
        at : row_at models config t k ≡ Some row
        at = row_here models config t k (table, entry_here.entries) (key, entry_here.fields) entry_here.at modelled entry_here.at_key

        none_by : (a : Breach) → IsBreachAt models config table key a → IsBreachBefore a (breach_at t k f) → ⊥
        none_by a broken (inl lt) = omega (arith, ((placed a.table a.key).0 broken.entry).0)
        none_by a broken (inr p) = elim p.1 [
          | inl lt ↦ omega (arith, ((placed a.table a.key).0 broken.entry).1)
          | inr q ↦
              let here = breaks_here a broken in
              (first here.0 here.1).1 a.rule a.field q.1 here.2
        ]

        none : (a : Breach) → IsBreachBefore a (breach_at t k f) → ¬ IsBreachAt models config table key a
        none a earlier broken = none_by a broken earlier
