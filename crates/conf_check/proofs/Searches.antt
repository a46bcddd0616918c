-- Which keys of a table meet a want, from one place to the next.
use Rattle.std.proofs.Common.{◌≡◌, ◌<◌, ◌≤◌, ◌+◌, ◌==◌, ℕ, true, List, map, length, slice_get, Some, Contains, refl, sym, ◌∙◌, subst, inl, inr, arith}
use Rattle.std.specs.List.{starts_with}
use Rattle.std.proofs.lemmas.Bool.{cases_lt}
use Rattle.std.proofs.lemmas.List.{length-map}
use Rattle.std.proofs.lemmas.Option.{get_or_from_slice_get, slice_get_read, slice_get_within}
use Rattle.conf_doc.specs.Pairs.{first_from, IsRising}
use Rattle.conf_doc.specs.declared.configuration.Table.{Table}
use Rattle.key_split.specs.Key.{key_parts}
use Rattle.yang_model.specs.ModelSets.{ModelSet}
use Rattle.yang_types.specs.declared.types.Target.{Target}
use Rattle.conf_check.specs.Verdicts.{IsMet, HasPart}
use Rattle.conf_check.proofs.Keys.{Begins, begins_with_part, begins_not_below, none_begins_above, starts_with-begins, before_first, from_first, rising_at}

-- what an item of a list is
pub contains_at : {A : Type 0} (xs : List A) (i : ℕ) (x : A) → slice_get xs i ≡ Some x → Contains xs x
contains_at xs i x at = (i, slice_get_within xs i x at, get_or_from_slice_get xs i x x at)

pub at_contained : {A : Type 0} (xs : List A) (x : A) → (there : Contains xs x) → slice_get xs there.0 ≡ Some x
at_contained xs x there = slice_get_read xs (length xs) there.0 x refl there.1 (sym there.2)

-- none so far, and not the next one
pub none_more : (P : List ℕ → Type 0) (names : List (List ℕ)) (i : ℕ) (name : List ℕ) → slice_get names i ≡ Some name
    → ((j : ℕ) (key : List ℕ) → j < i → slice_get names j ≡ Some key → ¬ P key) → ¬ P name
    → (j : ℕ) (key : List ℕ) → j < i + 1 → slice_get names j ≡ Some key → ¬ P key
none_more P names i name at before not j key lt at_j met =
    elim (cases_lt j i) [
      | inl less ↦ before j key less at_j met
      | inr more ↦
          let same : j ≡ i = omega arith in
          let e : Some key ≡ Some name = sym (subst (λ k. slice_get names k ≡ Some key) same at_j) ∙ at in
          let k : key ≡ name = cc in
          not (subst P k met)
    ]

module _ (models : ModelSet) (table : Table) (target : Target) (text : List ℕ) where
  -- a key that meets the want
  pub part_at : (i : ℕ) (key : List ℕ) → slice_get (map (λ e. e.0) table) i ≡ Some key → IsMet models target text key → HasPart models table target text
  part_at i key at met = record { key = key; there = contains_at (map (λ e. e.0) table) i key at; met = met }

  -- past the last there is none
  pub part_nowhere : (i : ℕ) → length table ≤ i
      → ((j : ℕ) (key : List ℕ) → j < i → slice_get (map (λ e. e.0) table) j ≡ Some key → ¬ IsMet models target text key)
      → ¬ HasPart models table target text
  part_nowhere i past none has =
      let at : slice_get (map (λ e. e.0) table) has.there.0 ≡ Some has.key = at_contained (map (λ e. e.0) table) has.key has.there in
      none has.there.0 has.key (omega (arith, has.there.1, length-map table (λ e. e.0))) at has.met

  -- keys that are below the text don't meet the want of a first part
  pub none_below : target.part ≡ 0 → (j : ℕ) (key : List ℕ) → j < first_from text table
      → slice_get (map (λ e. e.0) table) j ≡ Some key → ¬ IsMet models target text key
  none_below first j key lt at met =
      let part = subst (λ n. slice_get (key_parts key) n ≡ Some text) first met.part in
      begins_not_below text key (begins_with_part key text part) (before_first text table j key lt at)

  -- nor do those from the first on that doesn't begin with the text
  pub none_behind : target.part ≡ 0 → IsRising table → (i : ℕ) (name : List ℕ) → first_from text table ≤ i
      → slice_get (map (λ e. e.0) table) i ≡ Some name → (starts_with (λ a b. a == b) name text ≡ true → ⊥)
      → ((j : ℕ) (key : List ℕ) → j < i → slice_get (map (λ e. e.0) table) j ≡ Some key → ¬ IsMet models target text key)
      → ¬ HasPart models table target text
  none_behind first rising i name from at not none has =
      let key = has.key in
      let j = has.there.0 in
      let at_j : slice_get (map (λ e. e.0) table) j ≡ Some key = at_contained (map (λ e. e.0) table) key has.there in
      let begins : Begins text key = begins_with_part key text (subst (λ n. slice_get (key_parts key) n ≡ Some text) first has.met.part) in
      let unlike : ¬ Begins text name = λ b. not (starts_with-begins text name b) in
      elim (cases_lt j i) [
        | inl less ↦ none j key less at_j has.met
        | inr more ↦ elim (cases_lt i j) [
          | inl behind ↦ none_begins_above text name key unlike (from_first text table i name rising from at) (rising_at table i j name key rising behind at at_j) begins
          | inr same ↦
              let e : j ≡ i = omega arith in
              let k : Some key ≡ Some name = sym (subst (λ n. slice_get (map (λ e. e.0) table) n ≡ Some key) e at_j) ∙ at in
              let is : key ≡ name = cc in
              unlike (subst (λ n. Begins text n) is begins)
        ]
      ]
