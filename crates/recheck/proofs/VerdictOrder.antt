-- Verdicts are in the order of the entries, whichever configuration these are of.
use Rattle.std.proofs.Common.{◌≡◌, ◌⊎◌, ◌≤◌, ℕ, zero, suc, Bool, true, false, cond, ◌&&◌, IsTrue, List, [], ◌∷◌, length, Some, is_some, slice_get, Less, Equal, refl, sym, ap, ◌∙◌, subst, inl, inr, arith}
use Rattle.std.specs.FinMap.Entries.{below_all}
use Rattle.std.specs.Str.{bytes_eq}
use Rattle.std.proofs.lemmas.Bool.{and_parts}
use Rattle.std.proofs.lemmas.Cmp.{nat_list_cmp_total, tied_itself}
use Rattle.std.proofs.lemmas.List.Elements.{All-contains}
use Rattle.std.proofs.lemmas.Slice.Eq.{bytes_eq-Decides}
use Rattle.host_core.specs.Names.{name_cmp}
use Rattle.conf_doc.specs.Pairs.{IsRising}
use Rattle.conf_doc.specs.WellFormed.{Each as EachPart, IsConfig, IsTable}
use Rattle.conf_doc.specs.declared.configuration.Config.{Config}
use Rattle.conf_doc.specs.declared.configuration.Entry.{Entry}
use Rattle.conf_doc.specs.declared.configuration.Table.{Table}
use Rattle.yang_model.specs.ModelSets.{ModelSet, table_named}
use Rattle.conf_check.specs.Validity.{IsValidAt}
use Rattle.ref_index.specs.Agreements.{entry_of}
use Rattle.recheck.specs.Entries.{AreWithin, entries_in, entries_of, entries_with_model, is_of}
use Rattle.recheck.specs.Verdicts.{AreSound, IsSound}
use Rattle.recheck.specs.Within.{IsLeft}
use Rattle.recheck.specs.declared.verdicts.Verdict.{Verdict}
use Rattle.recheck.proofs.Lists.{entry_there}
use Rattle.recheck.proofs.Pairs.{less_is, some_same}
use Rattle.recheck.proofs.Rows.{no_row_unmodelled}
use Rattle.recheck.proofs.ParallelWalks.{Each, Has, Rises, each_all, each_also, each_append, each_left, each_two, each_within, has_first, has_second, rises_append, rises_left, rises_within, within_rising}

abbrev Name : Type 0
Name = List ℕ × List ℕ

-- by tables, and by keys in a table
abbrev Before : Name → Name → Type 0
Before a b = (name_cmp a.0 b.0 ≡ Less) ⊎ ((a.0 ≡ b.0) × (name_cmp a.1 b.1 ≡ Less))

not_less : (x : List ℕ) → name_cmp x x ≡ Less → ⊥
not_less x less = let tied : name_cmp x x ≡ Equal = tied_itself nat_list_cmp_total x in cc

not_both : (a b : Name) → Before a b → Before b a → ⊥
not_both a b (inl one) (inl two) = not_less a.0 (nat_list_cmp_total.trans a.0 b.0 a.0 one two)
not_both a b (inl one) (inr two) = not_less a.0 (subst (λ x. name_cmp a.0 x ≡ Less) two.0 one)
not_both a b (inr one) (inl two) = not_less b.0 (subst (λ x. name_cmp b.0 x ≡ Less) one.0 two)
not_both a b (inr one) (inr two) = not_less a.1 (nat_list_cmp_total.trans a.1 b.1 a.1 one.1 two.1)

-- ---- verdicts by their entries

abbrev on : Verdict → Name
on v = (v.table, v.key)

found : (e : Name) (v : Verdict) → is_of e v ≡ true → on v ≡ e
found e v is =
    let parts = and_parts _ _ is in
    let k : v.key ≡ e.1 = (bytes_eq-Decides v.key e.1).0 parts.0 in
    let t : v.table ≡ e.0 = (bytes_eq-Decides v.table e.0).0 parts.1 in
    λ i. (t i, k i)

finds : (e : Name) (v : Verdict) → is_of e v ≡ false → on v ≡ e → ⊥
finds e v is same =
    let k : bytes_eq v.key e.1 ≡ true = (bytes_eq-Decides v.key e.1).1 (ap (λ (x : Name). x.1) same) in
    let t : bytes_eq v.table e.0 ≡ true = (bytes_eq-Decides v.table e.0).1 (ap (λ (x : Name). x.0) same) in
    let both : is_of e v ≡ true = ap (λ b. b && bytes_eq v.table e.0) k ∙ t in
    cc

-- ---- the entries of a configuration

each_if : (P : Name → Type 0) (b : Bool) (es : List Name) → (b ≡ true → Each P es) → Each P (cond b es [])
each_if P true es all = all refl
each_if P false es all = tt

rises_if : (b : Bool) (es : List Name) → Rises Before es → Rises Before (cond b es [])
rises_if true es all = all
rises_if false es all = tt

-- all are of the table
of_table : (P : Name → Type 0) (name : List ℕ) (entries : Table) → ((key : List ℕ) → P (name, key)) → Each P (entries_in (name, entries))
of_table P name [] all = tt
of_table P name (x ∷ xs) all = (all x.0, of_table P name xs all)

module _ (models : ModelSet) where
  with_model : (P : Name → Type 0) (t : List ℕ × Table) → (is_some (table_named t.0 models) ≡ true → (key : List ℕ) → P (t.0, key))
      → Each P (entries_with_model models t)
  with_model P t all = each_if P (is_some (table_named t.0 models)) (entries_in t) (λ is. of_table P t.0 t.1 (all is))

  -- each has a model
  modelled_all : (c : Config) → Each (λ e. is_some (table_named e.0 models) ≡ true) (entries_of models c)
  modelled_all [] = tt
  modelled_all (t ∷ c) =
      let P : Name → Type 0 = λ e. is_some (table_named e.0 models) ≡ true in
      each_append P (entries_with_model models t) (entries_of models c) (with_model P t (λ is key. is)) (modelled_all c)

  after_all : (name : List ℕ) (c : Config) → below_all name_cmp name c ≡ true → Each (λ e. name_cmp name e.0 ≡ Less) (entries_of models c)
  after_all name [] below = tt
  after_all name (t ∷ c) below =
      let parts = and_parts _ _ below in
      let P : Name → Type 0 = λ e. name_cmp name e.0 ≡ Less in
      each_append P (entries_with_model models t) (entries_of models c) (with_model P t (λ is key. less_is _ parts.0)) (after_all name c parts.1)

  keys_after : (name key : List ℕ) (entries : Table) → below_all name_cmp key entries ≡ true → Each (Before (name, key)) (entries_in (name, entries))
  keys_after name key [] below = tt
  keys_after name key (x ∷ xs) below =
      let parts = and_parts _ _ below in
      (inr (refl, less_is _ parts.0), keys_after name key xs parts.1)

  keys_rise : (name : List ℕ) (entries : Table) → IsRising entries → Rises Before (entries_in (name, entries))
  keys_rise name [] rising = tt
  keys_rise name (x ∷ xs) rising =
      let parts = and_parts _ _ rising in
      (keys_after name x.0 xs parts.0, keys_rise name xs parts.1)

  entries_rise : (c : Config) → IsRising c → EachPart IsTable c → Rises Before (entries_of models c)
  entries_rise [] rising parts = tt
  entries_rise (t ∷ c) rising parts =
      let both = and_parts _ _ rising in
      let after = after_all t.0 c both.0 in
      rises_append Before (entries_with_model models t) (entries_of models c)
      (rises_if (is_some (table_named t.0 models)) (entries_in t) (keys_rise t.0 t.1 parts.0.shaped.rising))
      (entries_rise c both.1 parts.1)
      (with_model (λ x. Each (Before x) (entries_of models c)) t
      (λ is key. each_also (λ e. name_cmp t.0 e.0 ≡ Less) (Before (t.0, key)) (λ e less. inl less) (entries_of models c) after))

  has_key : (name key : List ℕ) (entries : Table) (fields : Entry) (k : ℕ) → slice_get entries k ≡ Some (key, fields) → Has (entries_in (name, entries)) (name, key)
  has_key name key [] fields k at = cc
  has_key name key (x ∷ xs) fields zero at = inl (ap (λ (q : List ℕ × Entry). (name, q.0)) (sym (some_same x (key, fields) at)))
  has_key name key (x ∷ xs) fields (suc k) at = inr (has_key name key xs fields k at)

  has_if : (b : Bool) (es : List Name) (e : Name) → b ≡ true → Has es e → Has (cond b es []) e
  has_if true es e is has = has
  has_if false es e is has = cc

  has_entry : (c : Config) (t k : ℕ) (table key : List ℕ) (entries : Table) (fields : Entry) → slice_get c t ≡ Some (table, entries)
      → slice_get entries k ≡ Some (key, fields) → is_some (table_named table models) ≡ true → Has (entries_of models c) (table, key)
  has_entry [] t k table key entries fields at at_key is = cc
  has_entry (p ∷ c) zero k table key entries fields at at_key is =
      let same : (table, entries) ≡ p = sym (some_same p (table, entries) at) in
      has_first (entries_with_model models p) (entries_of models c) (table, key)
      (subst (λ (q : List ℕ × Table). Has (entries_with_model models q) (table, key)) same
      (has_if (is_some (table_named table models)) (entries_in (table, entries)) (table, key) is (has_key table key entries fields k at_key)))
  has_entry (p ∷ c) (suc t) k table key entries fields at at_key is =
      has_second (entries_with_model models p) (entries_of models c) (table, key) (has_entry c t k table key entries fields at at_key is)

  some_has : (es : List Name) (e : Name) → Has es e → 1 ≤ length es
  some_has [] e has = absurd has
  some_has (x ∷ es) e has = omega arith

  -- there is one where an entry of a table with a model is there
  pub some_entry : (c : Config) (table key : List ℕ) → is_some (table_named table models) ≡ true → IsTrue (is_some (entry_of table key c))
      → 1 ≤ length (entries_of models c)
  some_entry c table key model there =
      let at = entry_there c table key there in
      some_has (entries_of models c) (table, key) (has_entry c at.0 at.1 table key at.2.entries at.2.fields at.2.at at.2.at_key model)

  -- and where one breaks a rule
  none_breaks : (c : Config) (table key : List ℕ) → length (entries_of models c) ≡ 0 → IsValidAt models c table key
  none_breaks c table key none b is = by (is_some (table_named table models)) refl
    where
      by : (o : Bool) → is_some (table_named table models) ≡ o → ⊥
      by true model =
          let has = has_entry c b.table b.key table key is.entry.entries is.entry.fields is.entry.at is.entry.at_key model in
          let some = some_has (entries_of models c) (table, key) has in
          omega (arith, some, none)
      by false model =
          no_row_unmodelled models c b.table b.key table is.entry.entries is.entry.at
          (λ yes. let e : true ≡ false = sym yes ∙ model in absurd cc) is.broken.row is.broken.at

  pub some_breaks : (c : Config) (table key : List ℕ) → (¬ IsValidAt models c table key) → 1 ≤ length (entries_of models c)
  some_breaks c table key breaks = by (length (entries_of models c)) refl
    where
      by : (n : ℕ) → length (entries_of models c) ≡ n → 1 ≤ n
      by zero is = absurd (breaks (none_breaks c table key is))
      by (suc n) is = omega arith

  -- verdicts that are left and true in another configuration are in the order of its entries
  pub ordered_on : (D : Verdict → Type 0) (config next : Config) (old new : List Verdict) → IsConfig config → IsConfig next → IsLeft D old new
      → AreWithin old (entries_of models config) → AreSound models next new → AreWithin new (entries_of models next)
  ordered_on D config next old new formed well left within sound =
      let es = entries_of models config in
      let rise : Rises Before es = entries_rise config formed.shaped.rising formed.parts in
      let R : Verdict → Verdict → Type 0 = λ v w. Before (on v) (on w) in
      let old_rise : Rises R old = rises_within is_of on found finds Before old es within rise in
      let M : Verdict → Type 0 = λ v. is_some (table_named v.table models) ≡ true in
      let old_modelled : Each M old = each_within is_of on found finds (λ e. is_some (table_named e.0 models) ≡ true) old es within (modelled_all config) in
      let here : Each (IsSound models next) new = each_all (IsSound models next) new (λ v has. All-contains (IsSound models next) new v sound has) in
      let has : Each (λ v. Has (entries_of models next) (on v)) new =
      each_two (IsSound models next) M (λ v. Has (entries_of models next) (on v))
      (λ v is model. let at = entry_there next v.table v.key is.there in has_entry next at.0 at.1 v.table v.key at.2.entries at.2.fields at.2.at at.2.at_key model)
      new here (each_left D M old new left old_modelled) in
      within_rising is_of on found finds Before not_both new (entries_of models next) (rises_left D R old new left old_rise)
      (entries_rise next well.shaped.rising well.parts) has
