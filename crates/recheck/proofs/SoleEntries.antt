-- A configuration that agrees with a valid one but for an entry whose change turns no other.
use Rattle.std.proofs.Common.{◌≡◌, ◌⊎◌, ◌↔◌, ◌≤◌, ◌+◌, ◌==◌, ℕ, suc, Bool, true, false, not, List, [], ◌∷◌, Option, Some, None, Contains, option_map, is_some, IsTrue, map, length, slice_get, get_or, refl, sym, ap, ◌∙◌, subst, inl, inr, arith}
use Rattle.std.specs.Bool.{OnFalse}
use Rattle.std.specs.List.{All}
use Rattle.std.proofs.lemmas.Bool.{cases_lt, eqb-true}
use Rattle.std.proofs.lemmas.List.Elements.{All-contains}
use Rattle.std.proofs.lemmas.Option.{slice_get_cases, slice_get_within}
use Rattle.conf_doc.specs.Pairs.{find}
use Rattle.conf_doc.specs.WellFormed.{IsConfig}
use Rattle.conf_doc.specs.declared.configuration.Config.{Config}
use Rattle.key_split.specs.Key.{key_parts}
use Rattle.yang_model.specs.Belongs.{Belongs}
use Rattle.yang_model.specs.ModelSets.{ModelSet, shapes_of, table_named}
use Rattle.conf_check.specs.MustReads.{HasOneTruth}
use Rattle.conf_check.specs.Rows.{IsEntryAt, Row, row_at}
use Rattle.conf_check.specs.Validity.{Breach, IsBreach, IsValid, IsValidAt}
use Rattle.ref_index.specs.Agreements.{AgreeBut, entry_of}
use Rattle.ref_index.specs.Referrers.{AreReferrers, HasWant, want_for}
use Rattle.ref_index.specs.declared.places.Place.{Place}
use Rattle.ref_index.proofs.Agreements.{by_name, same_or_one}
use Rattle.recheck.specs.Changes.{AreAmong, AreNoReaders, AreUnreadBefore, IsOnGone, IsPartUnwanted, IsTextUnwanted}
use Rattle.recheck.specs.SoleEntries.{IsUnread, IsUnwanted, StandsAlone}
use Rattle.recheck.specs.Turned.{IsOn, IsSame, IsTouched, IsTurned, Reads}
use Rattle.recheck.specs.Verdicts.{AreSound, IsSound}
use Rattle.recheck.specs.Within.{IsLeft}
use Rattle.recheck.specs.declared.verdicts.Verdict.{Verdict}
use Rattle.recheck.proofs.Lists.{among_all, entry_found, entry_there}
use Rattle.recheck.proofs.Pairs.{left_at}
use Rattle.recheck.proofs.ParallelWalks.{each_all, left_where}
use Rattle.recheck.proofs.Readers.{no_readers}
use Rattle.recheck.proofs.Rows.{no_row_past_keys, no_row_past_tables}
use Rattle.recheck.proofs.VerdictChanges.{sound_one}
use Rattle.recheck.proofs.VerdictDrops.{not_left}

-- ---- tables gone through

pub unread_start : (models : ModelSet) (config : Config) (table : List ℕ) → AreUnreadBefore models config table 0
unread_start models config table t name lt = absurd (omega (arith, lt))

pub unread_more : (models : ModelSet) (config : Config) (table : List ℕ) (n : ℕ) (name : List ℕ) → AreUnreadBefore models config table n
    → slice_get (map (λ p. p.0) config) n ≡ Some name → ((m : ℕ) → AreNoReaders models name table m) → AreUnreadBefore models config table (n + 1)
unread_more models config table n name before named none t other lt at =
    elim (cases_lt t n) [
      | inl less ↦ before t other less at
      | inr more ↦
          let same : t ≡ n = omega arith in
          let is : Some name ≡ Some other = sym named ∙ subst (λ j. slice_get (map (λ p. p.0) config) j ≡ Some other) same at in
          let e : name ≡ other = cc in
          subst (λ x. (m : ℕ) → AreNoReaders models x table m) e none
    ]

pub unread_end : (models : ModelSet) (config : Config) (table : List ℕ) (n : ℕ) → length config ≤ n → AreUnreadBefore models config table n
    → IsUnread models config table
unread_end models config table n past all v there =
    let at = entry_there config v.table v.key there in
    let within = slice_get_within config at.0 (v.table, at.2.entries) at.2.at in
    no_readers models table v v.table refl (all at.0 v.table (omega (arith, within, past)) (left_at config at.0 (v.table, at.2.entries) at.2.at))

-- ---- an entry that breaks a rule, by its names

entry_of_row : (models : ModelSet) (config : Config) (t k : ℕ) (r : Row) → row_at models config t k ≡ Some r
    → (table : List ℕ) × (key : List ℕ) × IsEntryAt config table key t k
entry_of_row models config t k r is =
    elim (slice_get_cases config t).1 [
      | inr past ↦ absurd (no_row_past_tables models config t k past.0 r is)
      | inl p ↦ elim (slice_get_cases p.0.1 k).1 [
        | inr past ↦ absurd (no_row_past_keys models config t k p.0.0 p.0.1 p.2 past.0 r is)
        | inl e ↦ (p.0.0, e.0.0, record { entries = p.0.1; at = p.2; fields = e.0.1; at_key = e.2 })
      ]
    ]

-- ---- one entry that changes

module _ (models : ModelSet) (config next : Config) (table key : List ℕ) (formed : IsConfig config) (well : IsConfig next) (truth : HasOneTruth models)
    (agree : AgreeBut config next table key) (alone : StandsAlone models config next table key) where
  module _ (v : Verdict) (other : ¬ IsOn table key v) (sound : IsSound models config v) where
    same : IsSame config next v.table v.key
    same = elim (same_or_one config next table key agree v.table v.key) [ inl is ↦ sym is | inr one ↦ absurd (other one) ]

    untouched : IsUnwanted models config table key → ¬ IsTouched models config table key v
    untouched none (inl on) = other on
    untouched none (inr wants) = none v wants

    keys : (t k : List ℕ) (i j : ℕ) → IsEntryAt config t k i j → IsTrue (is_some (entry_of t k next)) ⊎ (¬ IsTouched models config t k v)
    keys t k i j is =
        elim (same_or_one config next table key agree t k) [
          | inl e ↦ inl (ap is_some (sym e ∙ entry_found config t k i j formed is))
          | inr one ↦ elim alone.stays [
            | inl there ↦
                inl (subst (λ u. IsTrue (is_some (entry_of u k next))) (sym one.0) (subst (λ l. IsTrue (is_some (entry_of table l next))) (sym one.1) there))
            | inr none ↦
                inr (subst (λ u. ¬ IsTouched models config u k v) (sym one.0) (subst (λ l. ¬ IsTouched models config table l v) (sym one.1) (untouched none)))
          ]
        ]

    tables : (name : List ℕ) → (find name config ≡ find name next) ⊎ (¬ Reads models name v)
    tables name =
        by_name name table ((find name config ≡ find name next) ⊎ (¬ Reads models name v))
        (λ e. inr (subst (λ n. ¬ Reads models n v) (sym e) (alone.unread v sound.there))) (λ differs. inl (agree.tables name differs))

    -- a verdict on another entry stays true
    other_sound : IsSound models next v
    other_sound = sound_one models config next formed well truth v same keys tables sound

  module _ (valid : IsValid models config) where
    -- so an entry that breaks a rule is the one
    is_the_one : (b : Breach) → IsBreach models next b → (t k : List ℕ) (at : IsEntryAt next t k b.table b.key) → (¬ IsOn table key (record { table = t; key = k })) → ⊥
    is_the_one b broken t k at other =
        let v : Verdict = record { table = t; key = k } in
        let e : entry_of t k config ≡ entry_of t k next =
        elim (same_or_one config next table key agree t k) [ inl is ↦ is | inr one ↦ absurd (other one) ] in
        let sound : IsSound models config v =
        record { there = ap is_some (e ∙ entry_found next t k b.table b.key well at); valid = λ c is. valid c is.broken } in
        (other_sound v other sound).valid b (record { entry = at; broken = broken })

    stays_valid : IsValidAt models next table key → IsValid models next
    stays_valid here b broken =
        let at = entry_of_row models next b.table b.key broken.row broken.at in
        by_name at.0 table ⊥
        (λ t. by_name at.1 key ⊥
        (λ k. here b (record { entry = subst (λ u. IsEntryAt next u key b.table b.key) t (subst (λ l. IsEntryAt next at.0 l b.table b.key) k at.2); broken = broken }))
        (λ differs. is_the_one b broken at.0 at.1 at.2 (λ on. differs on.1)))
        (λ differs. is_the_one b broken at.0 at.1 at.2 (λ on. differs on.0))

    -- the next configuration is valid where that entry is
    pub sole_valid : (b : Bool) → IsTrue b ↔ IsValidAt models next table key → IsTrue b ↔ IsValid models next
    sole_valid b says = (λ yes. stays_valid (says.0 yes), λ all. says.1 (λ c is. all c is.broken))

-- the verdicts on entries that are there stay true in a valid configuration
pub still_sound : (models : ModelSet) (config next : Config) (table key : List ℕ) (old new : List Verdict) → AgreeBut config next table key → IsValid models next
    → AreSound models config old → AreAmong old new → IsTrue (is_some (entry_of table key next)) ⊎ All (λ v. ¬ IsOn table key v) new → AreSound models next new
still_sound models config next table key old new agree valid sound among stays i d lt =
    record { there = there; valid = λ b is. valid b is.broken }
  where
    v : Verdict
    v = get_or new i d

    before : IsSound models config v
    before = among_all (IsSound models config) old new among.each sound i d lt

    there : IsTrue (is_some (entry_of v.table v.key next))
    there =
        elim (same_or_one config next table key agree v.table v.key) [
          | inl e ↦ subst (λ o. IsTrue (is_some o)) e before.there
          | inr one ↦ elim stays [
            | inl is ↦
                subst (λ u. IsTrue (is_some (entry_of u v.key next))) (sym one.0) (subst (λ l. IsTrue (is_some (entry_of table l next))) (sym one.1) is)
            | inr none ↦ absurd (none i d lt one)
          ]
        ]

-- a verdict on the entry falls where that is gone, which may turn it
pub gone_turned : (models : ModelSet) (config next : Config) (table key : List ℕ) (old new : List Verdict) → AreSound models config old
    → IsLeft (IsOnGone next table key) old new → IsLeft (IsTurned models config next) old new
gone_turned models config next table key old new sound =
    left_where (IsSound models config) (IsOnGone next table key) (IsTurned models config next) turns old new
    (each_all (IsSound models config) old (λ v has. All-contains (IsSound models config) old v sound has))
  where
    turns : (v : Verdict) → IsSound models config v → IsOnGone next table key v → IsTurned models config next v
    turns v is gone =
        let there : IsTrue (is_some (entry_of table key config)) =
        subst (λ t. IsTrue (is_some (entry_of t key config))) gone.0.0 (subst (λ k. IsTrue (is_some (entry_of v.table k config))) gone.0.1 is.there) in
        inl (record { table = table; key = key; there = there; differs = λ same. gone.1 (ap is_some same ∙ there); touches = inl (inl gone.0) })

-- ---- an entry that none wants

pub mapped_some : {A B : Type 0} (f : A → B) (o : Option A) (p : Option B) (b : Bool) → option_map f o ≡ p → b ≡ is_some o → b ≡ is_some p
mapped_some f None p b e is = is ∙ ap is_some e
mapped_some f (Some x) p b e is = is ∙ ap is_some e

some_counted : (n : ℕ) → true ≡ (suc n == 0) → ⊥
some_counted n is = let none : suc n ≡ 0 = eqb-true (suc n) 0 (sym is) in omega (arith, none)

module _ (models : ModelSet) (config : Config) (table : List ℕ) (shape : ℕ) where
  -- a text that no referrer wants
  pub text_unwanted : (n part : ℕ) (text : List ℕ) (places : List Place) (b : Bool) → n ≡ part → AreReferrers models config (want_for table shape n text) places
      → b ≡ (length places == 0) → OnFalse (not b) (IsTextUnwanted models config table shape part text)
  text_unwanted n part text places false number are is = tt
  text_unwanted n part text (q ∷ places) true number are is = absurd (some_counted (length places) is)
  text_unwanted n part text [] true number are is = λ p has.
      let mine : HasWant models config (want_for table shape n text) p = subst (λ m. HasWant models config (want_for table shape m text) p) (sym number) has in
      let none : Contains [] p = are.all p mine in
      absurd (omega (arith, none.1))

  pub part_unwanted : (key : List ℕ) (part : ℕ) (text : List ℕ) (b : Bool) → Some text ≡ slice_get (key_parts key) part
      → OnFalse b (IsTextUnwanted models config table shape part text) → OnFalse b (IsPartUnwanted models config table shape key part)
  part_unwanted key part text true is none = tt
  part_unwanted key part text false is none = λ other at.
      let same : Some text ≡ Some other = is ∙ at in
      let e : text ≡ other = cc in
      subst (λ s. IsTextUnwanted models config table shape part s) e none

  -- a key of which each part is wanted by none
  pub key_unwanted : (key : List ℕ) (b : Bool) → Belongs (shapes_of table models) key (Some shape)
      → OnFalse b ((part : ℕ) → IsPartUnwanted models config table shape key part) → OnFalse b (IsUnwanted models config table key)
  key_unwanted key true belongs none = tt
  key_unwanted key false belongs none = λ v.
      not_left models config table key shape (v ∷ []) belongs (λ part text p at has. absurd (none part text at p has)) v (0, omega arith, refl)

-- ---- an entry that may turn alone

pub alone_there : (models : ModelSet) (config next : Config) (table key : List ℕ) (m u b : Bool) → m ≡ is_some (table_named table models) → m ≡ true
    → (IsTrue u → IsUnread models config table) → u ≡ true → b ≡ is_some (entry_of table key next) → b ≡ true → StandsAlone models config next table key
alone_there models config next table key m u b is has unread none there holds =
    record { modelled = sym is ∙ has; unread = unread none; stays = inl (sym there ∙ holds) }

pub alone_gone : (models : ModelSet) (config next : Config) (table key : List ℕ) (m u w : Bool) → m ≡ is_some (table_named table models) → m ≡ true
    → (IsTrue u → IsUnread models config table) → u ≡ true → OnFalse w (IsUnwanted models config table key) → IsTrue (not w) → StandsAlone models config next table key
alone_gone models config next table key m u false is has unread none unwanted holds =
    record { modelled = sym is ∙ has; unread = unread none; stays = inr unwanted }
alone_gone models config next table key m u true is has unread none unwanted holds = absurd cc
