-- Entries that were looked at: what is added to the verdicts, and what stays.
use Rattle.std.proofs.Common.{◌≡◌, ◌≤◌, ◌<◌, ◌+◌, ℕ, zero, suc, Bool, true, false, cond, List, [], ◌∷◌, ◌++◌, length, map, take, insert, Option, Some, None, IfSome, is_some, slice_get, refl, sym, ap, ◌∙◌, subst, inl, inr, add-one, arith}
use Rattle.std.specs.List.{Contains}
use Rattle.std.proofs.lemmas.List.Elements.{Contains-append_cases, Contains-append_left, Contains-append_right, Contains-push_cases}
use Rattle.conf_doc.specs.declared.configuration.Config.{Config}
use Rattle.conf_doc.specs.declared.configuration.Table.{Table}
use Rattle.conf_check.specs.Validity.{IsValidAt}
use Rattle.yang_model.specs.ModelSets.{ModelSet, table_named}
use Rattle.recheck.specs.Counts.{AreLeft, AreStillKept}
use Rattle.recheck.specs.Entries.{IsLooked, entries_in, entries_of, entries_with_model}
use Rattle.recheck.specs.Rechecks.{AreLooked, IsNotedAt}
use Rattle.recheck.specs.Turned.{IsTurned}
use Rattle.recheck.specs.Verdicts.{HasVerdict}
use Rattle.recheck.specs.Within.{IsLeft}
use Rattle.recheck.specs.declared.kept.Kept.{Kept}
use Rattle.recheck.specs.declared.verdicts.Verdict.{Verdict}
use Rattle.recheck.proofs.EntryCounts.{entries_more, long_in, named_at, on_itself, take_all, take_more, there}

-- ---- lists with one more item

module _ {A : Type 0} where
  none_in : (x : A) → ¬ Contains [] x
  none_in x has = let lt = has.1 in omega arith

  first_in : (xs : List A) (x : A) → Contains (x ∷ xs) x
  first_in xs x = (zero, omega arith, refl)

  only : (y x : A) → Contains (y ∷ []) x → x ≡ y
  only y x has = elim (Contains-push_cases [] y x has) [
    | inl none ↦ absurd (none_in x none)
    | inr same ↦ sym same
  ]

  inserted : (xs : List A) (i : ℕ) (x : A) → i ≤ length xs → Contains (insert xs i x) x
  inserted xs zero x le = first_in xs x
  inserted [] (suc i) x le = absurd (omega (arith, le))
  inserted (y ∷ xs) (suc i) x le = Contains-append_right (y ∷ []) (insert xs i x) x (inserted xs i x (omega (arith, le)))

  still_in : (xs : List A) (i : ℕ) (x y : A) → i ≤ length xs → Contains xs y → Contains (insert xs i x) y
  still_in xs zero x y le has = Contains-append_right (x ∷ []) xs y has
  still_in [] (suc i) x y le has = absurd (omega (arith, le))
  still_in (z ∷ xs) (suc i) x y le has = elim (Contains-append_cases (z ∷ []) xs y has) [
    | inl here ↦ Contains-append_left (z ∷ []) (insert xs i x) y here
    | inr later ↦ Contains-append_right (z ∷ []) (insert xs i x) y (still_in xs i x y (omega (arith, le)) later)
  ]

  longer_by : (xs : List A) (i : ℕ) (x : A) → i ≤ length xs → length xs ≤ length (insert xs i x)
  longer_by xs zero x le = omega arith
  longer_by [] (suc i) x le = absurd (omega (arith, le))
  longer_by (y ∷ xs) (suc i) x le = let rest = longer_by xs i x (omega (arith, le)) in omega (arith, rest)

  -- what may not be dropped is left
  pub left_still : (D : A → Type 0) (old new : List A) → IsLeft D old new → (x : A) → Contains old x → ¬ D x → Contains new x
  left_still D [] new is x has not = absurd (none_in x has)
  left_still D (y ∷ old) new (inl gone) x has not = elim (Contains-append_cases (y ∷ []) old x has) [
    | inl here ↦ absurd (not (subst D (sym (only y x here)) gone.0))
    | inr later ↦ left_still D old new gone.1 x later not
  ]
  left_still D (y ∷ old) new (inr stays) x has not =
      subst (λ l. Contains l x) (sym stays.1) (elim (Contains-append_cases (y ∷ []) old x has) [
        | inl here ↦ Contains-append_left (y ∷ []) stays.0 x here
        | inr later ↦ Contains-append_right (y ∷ []) stays.0 x (left_still D old stays.0 stays.2 x later not)
      ])

-- ---- verdicts that are kept still

pub same_kept : (models : ModelSet) (old : Option Kept) (next : Config) → IfSome old (λ k. AreStillKept models old next k.verdicts.items)
same_kept models None next = tt
same_kept models (Some kept) next = λ v has not. has

pub still_kept : (models : ModelSet) (old : Option Kept) (next : Config) (left u v w : List Verdict) → AreLeft models old next left → u ≡ left
    → ((x : Verdict) → Contains u x → Contains v x) → w ≡ v → AreStillKept models old next w
still_kept models None next left u v w are is stay same = tt
still_kept models (Some kept) next left u v w are is stay same = λ x has not.
    let here = left_still (IsTurned models kept.index.config next) kept.verdicts.items left are x has not in
    subst (λ l. Contains l x) (sym same) (stay x (subst (λ l. Contains l x) (sym is) here))

-- ---- entries

abbrev Entries : Type 0
Entries = List (List ℕ × List ℕ)

module _ (models : ModelSet) (config : Config) where
  -- what was looked at still was where verdicts are added
  still_looked : (u v : List Verdict) (table key : List ℕ) → ((x : Verdict) → Contains u x → Contains v x) → length u ≤ length v
      → IsLooked models config u table key → IsLooked models config v table key
  still_looked u v table key stay longer (inl has) = inl (has.0, stay has.0 has.1, has.2)
  still_looked u v table key stay longer (inr (inl breaks)) = inr (inl breaks)
  still_looked u v table key stay longer (inr (inr full)) = inr (inr (omega (arith, full, longer)))

  pub looked_none : (u : List Verdict) → AreLooked models config [] u u
  looked_none u = record { stay = λ x has. has; longer = omega arith; each = λ table key has. absurd (none_in (table, key) has) }

  -- one list after the other
  looked_then : (es fs : Entries) (u v w : List Verdict) → AreLooked models config es u v → AreLooked models config fs v w → AreLooked models config (es ++ fs) u w
  looked_then es fs u v w one two = record {
    stay = λ x has. two.stay x (one.stay x has);
    longer = omega (arith, one.longer, two.longer);
    each = λ table key has. elim (Contains-append_cases es fs (table, key) has) [
      | inl first ↦ still_looked v w table key two.stay two.longer (one.each table key first)
      | inr second ↦ two.each table key second
    ];
  }

  -- one entry
  looked_one : (table key : List ℕ) (u v : List Verdict) → ((x : Verdict) → Contains u x → Contains v x) → length u ≤ length v
      → IsLooked models config v table key → AreLooked models config ((table, key) ∷ []) u v
  looked_one table key u v stay longer is = record {
    stay = stay;
    longer = longer;
    each = λ t k has.
        let P : List ℕ × List ℕ → Type 0 = λ e. IsLooked models config v e.0 e.1 in
        elim (Contains-push_cases [] (table, key) (t, k) has) [
          | inl none ↦ absurd (none_in (t, k) none)
          | inr same ↦ subst P same is
        ];
  }

  same_looked : (table key : List ℕ) (u v : List Verdict) → v ≡ u → IsLooked models config u table key → AreLooked models config ((table, key) ∷ []) u v
  same_looked table key u v same is =
      subst (λ l. AreLooked models config ((table, key) ∷ []) u l) (sym same) (looked_one table key u u (λ x has. has) (omega arith) is)

  -- it has a verdict
  pub looked_passed : (table key : List ℕ) (u v : List Verdict) → v ≡ u → HasVerdict table key u → AreLooked models config ((table, key) ∷ []) u v
  looked_passed table key u v same has = same_looked table key u v same (inl has)

  -- or it breaks a rule
  pub looked_invalid : (table key : List ℕ) (u v : List Verdict) → v ≡ u → ¬ IsValidAt models config table key → AreLooked models config ((table, key) ∷ []) u v
  looked_invalid table key u v same breaks = same_looked table key u v same (inr (inl breaks))

  -- or it gets one, unless there are as many as are kept
  pub looked_noted : (table key : List ℕ) (u v w : List Verdict) (b b' : ℕ) → v ≡ u → b ≤ length v → IsNotedAt table key v b w b'
      → AreLooked models config ((table, key) ∷ []) u w
  looked_noted table key u v w b b' same within noted =
      subst (λ l. AreLooked models config ((table, key) ∷ []) l w) same (by noted)
    where
      e : Verdict
      e = record { table = table; key = key }

      by : IsNotedAt table key v b w b' → AreLooked models config ((table, key) ∷ []) v w
      by (inr full) = same_looked table key v w full.0 (inr (inr full.2))
      by (inl added) =
          subst (λ l. AreLooked models config ((table, key) ∷ []) v l) (sym added.0)
          (looked_one table key v (insert v b e) (λ x has. still_in v b e x within has) (longer_by v b e within)
          (inl (e, inserted v b e within, on_itself table key)))

  -- ---- tables

  -- one more key of a table
  pub looked_keys : (name : List ℕ) (entries : Table) (i : ℕ) (key : List ℕ) (u v w : List Verdict) → slice_get (map (λ e. e.0) entries) i ≡ Some key
      → AreLooked models config (take i (entries_in (name, entries))) u v → AreLooked models config ((name, key) ∷ []) v w
      → AreLooked models config (take (i + 1) (entries_in (name, entries))) u w
  looked_keys name entries i key u v w at one two =
      subst (λ es. AreLooked models config es u w) (sym (take_more (entries_in (name, entries)) i (name, key) (named_at name entries i key at)))
      (looked_then (take i (entries_in (name, entries))) ((name, key) ∷ []) u v w one two)

  -- all keys of a table
  pub looked_table : (p : List ℕ × Table) (name : List ℕ) (entries : Table) (i : ℕ) (u v : List Verdict) → (name, entries) ≡ p → length entries ≤ i
      → AreLooked models config (take i (entries_in (name, entries))) u v → AreLooked models config (entries_in p) u v
  looked_table p name entries i u v same past looked =
      subst (λ q. AreLooked models config (entries_in q) u v) same
      (subst (λ es. AreLooked models config es u v)
      (take_all (entries_in (name, entries)) i (let l = long_in name entries in omega (arith, l, past))) looked)

  -- those of a table with a model, and of one without
  pub looked_modelled : (p : List ℕ × Table) (name : List ℕ) (o : Bool) (u v : List Verdict) → name ≡ p.0 → o ≡ is_some (table_named name models) → o ≡ true
      → AreLooked models config (entries_in p) u v → AreLooked models config (entries_with_model models p) u v
  looked_modelled p name o u v same is has looked =
      let e : is_some (table_named p.0 models) ≡ true = ap (λ n. is_some (table_named n models)) (sym same) ∙ sym is ∙ has in
      subst (λ x. AreLooked models config (cond x (entries_in p) []) u v) (sym e) looked

  pub looked_unmodelled : (p : List ℕ × Table) (name : List ℕ) (o : Bool) (u : List Verdict) → name ≡ p.0 → o ≡ is_some (table_named name models) → o ≡ false
      → AreLooked models config (entries_with_model models p) u u
  looked_unmodelled p name o u same is lacks =
      let e : is_some (table_named p.0 models) ≡ false = ap (λ n. is_some (table_named n models)) (sym same) ∙ sym is ∙ lacks in
      subst (λ x. AreLooked models config (cond x (entries_in p) []) u u) (sym e) (looked_none u)

  -- one more table
  pub looked_tables : (t : ℕ) (u v w : List Verdict) → t < length config → AreLooked models config (entries_of models (take t config)) u v
      → ((p : List ℕ × Table) → slice_get config t ≡ Some p → AreLooked models config (entries_with_model models p) v w)
      → AreLooked models config (entries_of models (take (t + 1) config)) u w
  looked_tables t u v w within one two =
      let p = there config t within in
      let e : entries_of models (take (t + 1) config) ≡ entries_of models (take t config) ++ entries_with_model models p.0 =
      ap (λ n. entries_of models (take n config)) (add-one t) ∙ entries_more models config t p.0 p.1 in
      subst (λ es. AreLooked models config es u w) (sym e)
      (looked_then (entries_of models (take t config)) (entries_with_model models p.0) u v w one (two p.0 p.1))

  pub looked_all : (t : ℕ) (u v : List Verdict) → length config ≤ t → AreLooked models config (entries_of models (take t config)) u v
      → AreLooked models config (entries_of models config) u v
  looked_all t u v past looked = subst (λ (x : Config). AreLooked models config (entries_of models x) u v) (take_all config t past) looked
