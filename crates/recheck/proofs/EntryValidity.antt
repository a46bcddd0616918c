-- A configuration is valid where each of its entries is: what is known from one entry to the next.
use Rattle.std.proofs.Common.{◌≡◌, ◌↔◌, ◌≤◌, ◌+◌, ℕ, Bool, true, false, List, Some, is_some, IsTrue, length, slice_get, refl, sym, subst, arith, inl, inr}
use Rattle.std.specs.Prelude.{not}
use Rattle.std.proofs.lemmas.Bool.{cases_lt}
use Rattle.conf_doc.specs.WellFormed.{IsConfig}
use Rattle.conf_doc.specs.declared.configuration.Config.{Config}
use Rattle.conf_doc.specs.declared.configuration.Table.{Table}
use Rattle.yang_model.specs.ModelSets.{ModelSet, table_named}
use Rattle.conf_check.specs.Rows.{IsEntryAt, row_at}
use Rattle.conf_check.specs.Validity.{IsFirstViolation, IsFirstViolationAt, IsValid, IsValidAt}
use Rattle.conf_check.specs.declared.violations.Violation.{Violation}
use Rattle.move_core.specs.Contexts.{rulebook}
use Rattle.move_core.specs.Rules.{Passes}
use Rattle.move_core.specs.declared.contexts.Ctx.{Ctx}
use Rattle.move_core.specs.declared.moves.Move.{Move}
use Rattle.recheck.specs.Rechecks.{AreKeysValid, AreTablesValid, IsTableValid}
use Rattle.recheck.proofs.Lists.{entry_once}
use Rattle.recheck.proofs.Rows.{no_row_past_keys, no_row_past_tables, no_row_unmodelled}

-- what is valid is answered so
pub valid_at : (models : ModelSet) (config : Config) (table key : List ℕ) → IsValidAt models config table key → IsTrue true ↔ IsValidAt models config table key
valid_at models config table key valid = (λ _. valid, λ _. refl)

pub valid : (models : ModelSet) (config : Config) → IsValid models config → IsTrue true ↔ IsValid models config
valid models config is = (λ _. is, λ _. refl)

-- an entry with a violation isn't valid
pub not_valid_at : (models : ModelSet) (config : Config) (table key : List ℕ) (v : Violation) → IsFirstViolationAt models config table key v
    → IsTrue false ↔ IsValidAt models config table key
not_valid_at models config table key v first = (λ t. absurd cc, λ valid. absurd (valid first.breach first.broken))

-- nor is a configuration with one
pub not_valid : (models : ModelSet) (config : Config) (v : Violation) → IsFirstViolation models config v → IsTrue false ↔ IsValid models config
not_valid models config v first = (λ t. absurd cc, λ valid. absurd (valid first.breach first.broken))

-- nor is one with an entry that isn't
pub invalid_there : (models : ModelSet) (config : Config) (table key : List ℕ) (b : Bool) → IsTrue b ↔ IsValidAt models config table key
    → IsTrue (not b) → IsValid models config → ⊥
invalid_there models config table key true says told valid = absurd cc
invalid_there models config table key false says told valid = let there = says.1 (λ b at. valid b at.broken) in absurd cc

-- the first rule lets a move pass to a valid configuration
pub first_rule : (ctx : Ctx) (cur next : Config) (m : Move) (b : Bool) → IsTrue b ↔ IsValid ctx.models next → IsTrue b ↔ Passes (rulebook ctx) 1 cur next m
first_rule ctx cur next m b says = (λ passes. inl (refl, says.0 passes), λ p. says.1 (back p))
  where
    back : Passes (rulebook ctx) 1 cur next m → IsValid ctx.models next
    back (inl p) = p.1
    back (inr (inl p)) = absurd (omega arith)
    back (inr (inr (inl p))) = absurd (omega arith)
    back (inr (inr (inr (inl p)))) = absurd (omega arith)
    back (inr (inr (inr (inr p)))) = absurd (omega arith)

module _ (models : ModelSet) (config : Config) where
  -- no key is before the first
  pub keys_start : (t : ℕ) → IsTrue true ↔ AreKeysValid models config t 0
  keys_start t = (λ _ b here lt. absurd (omega (arith, lt)), λ _. refl)

  module _ (formed : IsConfig config) (t i : ℕ) (table key : List ℕ) (at : IsEntryAt config table key t i) where
    more : AreKeysValid models config t i → IsValidAt models config table key → AreKeysValid models config t (i + 1)
    more before here b in_table lt broken =
        elim (cases_lt b.key i) [
          | inl less ↦ before b in_table less broken
          | inr not_less ↦
              let same : b.key ≡ i = omega arith in
              let entry : IsEntryAt config table key b.table b.key =
              subst (λ u. IsEntryAt config table key u b.key) (sym in_table) (subst (λ l. IsEntryAt config table key t l) (sym same) at) in
              here b (record { entry = entry; broken = broken })
        ]

    here_from : AreKeysValid models config t (i + 1) → IsValidAt models config table key
    here_from all b is =
        let once = entry_once config table key formed t i b.table b.key at is.entry in
        all b (sym once.0) (omega (arith, once.1)) is.broken

    -- one more key
    pub keys_more : (valid holds both : Bool) → IsTrue valid ↔ AreKeysValid models config t i → IsTrue holds ↔ IsValidAt models config table key
        → IsTrue both ↔ (IsTrue valid × IsTrue holds) → IsTrue both ↔ AreKeysValid models config t (i + 1)
    keys_more valid holds both before here is = (
      λ yes. more (before.0 (is.0 yes).0) (here.0 (is.0 yes).1),
      λ all. is.1 (before.1 (λ b in_table lt. all b in_table (omega (arith, lt))), here.1 (here_from all)),
    )

  -- past the last key all are done
  pub keys_end : (t i : ℕ) (name : List ℕ) (entries : Table) (valid : Bool) → slice_get config t ≡ Some (name, entries) → length entries ≤ i
      → IsTrue valid ↔ AreKeysValid models config t i → IsTrue valid ↔ IsTableValid models config t
  keys_end t i name entries valid at past says = (
    λ yes b here broken.
        elim (cases_lt b.key i) [
          | inl less ↦ says.0 yes b here less broken
          | inr more ↦
              no_row_past_keys models config t b.key name entries at (omega arith) broken.row
              (subst (λ u. row_at models config u b.key ≡ Some broken.row) here broken.at)
        ],
    λ all. says.1 (λ b here lt. all b here),
  )

  -- a table without a model has no violation
  pub unmodelled : (t : ℕ) (name : List ℕ) (entries : Table) → slice_get config t ≡ Some (name, entries) → (is_some (table_named name models) ≡ true → ⊥)
      → IsTrue true ↔ IsTableValid models config t
  unmodelled t name entries at not = (
    λ _ b here broken.
        no_row_unmodelled models config t b.key name entries at not broken.row
        (subst (λ u. row_at models config u b.key ≡ Some broken.row) here broken.at),
    λ _. refl,
  )

  -- no table is before the first
  pub tables_start : IsTrue true ↔ AreTablesValid models config 0
  tables_start = (λ _ b lt. absurd (omega (arith, lt)), λ _. refl)

  -- one more table
  pub tables_more : (t : ℕ) (valid holds both : Bool) → IsTrue valid ↔ AreTablesValid models config t → IsTrue holds ↔ IsTableValid models config t
      → IsTrue both ↔ (IsTrue valid × IsTrue holds) → IsTrue both ↔ AreTablesValid models config (t + 1)
  tables_more t valid holds both before here is = (
    λ yes b lt broken.
        elim (cases_lt b.table t) [
          | inl less ↦ before.0 (is.0 yes).0 b less broken
          | inr more ↦ here.0 (is.0 yes).1 b (omega arith) broken
        ],
    λ all. is.1 (before.1 (λ b lt. all b (omega (arith, lt))), here.1 (λ b same. all b (omega (arith, same)))),
  )

  -- past the last table all are done
  pub tables_end : (n : ℕ) (valid : Bool) → length config ≤ n → IsTrue valid ↔ AreTablesValid models config n → IsTrue valid ↔ IsValid models config
  tables_end n valid past says = (
    λ yes b broken.
        elim (cases_lt b.table n) [
          | inl less ↦ says.0 yes b less broken
          | inr more ↦ no_row_past_tables models config b.table b.key (omega arith) broken.row broken.at
        ],
    λ all. says.1 (λ b lt. all b),
  )
