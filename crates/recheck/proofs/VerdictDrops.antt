-- Verdicts that are left where some are dropped.
use Rattle.std.proofs.Common.{◌≡◌, ◌⊎◌, ◌<◌, ◌≤◌, ◌+◌, ℕ, Bool, true, false, not, ◌&&◌, List, [], map, filter, length, get_or, Option, Some, None, option_map, option_and_then, slice_get, Contains, refl, sym, ap, ◌∙◌, subst, inl, inr, arith}
use Rattle.std.specs.Prelude.{IfSome}
use Rattle.std.specs.List.{All}
use Rattle.std.proofs.lemmas.List.Elements.{All-contains, All-contains_itself, at_read, All-filter, All-weaker, Contains-get_or, filter_passes}
use Rattle.std.proofs.lemmas.Bool.{cases_lt}
use Rattle.std.proofs.lemmas.Option.{slice_get_within}
use Rattle.std.proofs.lemmas.Slice.Eq.{bytes_eq-Decides}
use denote.Ref.{Bor}
use Rattle.conf_doc.specs.Pairs.{find, IsRising}
use Rattle.conf_doc.specs.WellFormed.{IsConfig}
use Rattle.conf_doc.specs.declared.configuration.Config.{Config}
use Rattle.conf_doc.specs.declared.configuration.Entry.{Entry}
use Rattle.conf_doc.specs.declared.configuration.Table.{Table}
use Rattle.key_split.specs.Key.{key_parts}
use Rattle.yang_text.specs.Declarations.{Declaration}
use Rattle.yang_scope.specs.Modules.{modules_of}
use Rattle.yang_model.specs.Answers.{HaveFiles, faults}
use Rattle.yang_model.specs.Readers.{Readers}
use Rattle.yang_model.specs.Leaves.{stored}
use Rattle.yang_model.specs.Shapes.{models_of}
use Rattle.conf_check.specs.MustReads.{HasOneTruth}
use Rattle.yang_model.specs.Belongs.{Belongs, Belongs-once}
use Rattle.yang_model.specs.ModelSets.{ModelSet, shapes_of}
use Rattle.yang_model.specs.declared.shapes.Shape.{Shape}
use Rattle.conf_check.specs.Rows.{Row, row_of, IsEntryAt, texts_of, typed_text}
use Rattle.conf_check.specs.Wants.{Want, IsWantAt, IsWantedText, field_name}
use Rattle.ref_index.specs.Referrers.{HasWant, want_for}
use Rattle.ref_index.specs.declared.places.Place.{Place}
use Rattle.recheck.specs.Changes.{AreAmong, AreElsewhere, AreHandled, AreKeysHandled, AreTablesHandled, AreUnread, AreUntouched, IsHandled, IsTableHandled, IsTableHandledAt}
use Rattle.recheck.specs.Turned.{IsOn, IsSame, IsTouched, Reads, Wants}
use Rattle.recheck.specs.Verdicts.{AreSound, IsSound, is_elsewhere}
use Rattle.recheck.specs.declared.verdicts.Verdict.{Verdict}
use Rattle.recheck.proofs.VerdictChanges.{all_sound}
use Rattle.recheck.proofs.Lists.{among_all, entry_found, table_rises}
use Rattle.recheck.proofs.Pairs.{found_at, found_there, left_at, pair_at, right_at, some_same}
use Rattle.recheck.proofs.Rows.{row_only}

-- ---- lists within one another

pub among_filter : (p : Verdict → Bool) (old new : List Verdict) → new ≡ filter p old → length new ≤ length old → AreAmong old new
among_filter p old new e shorter =
    record { each = subst (λ l. All (Contains old) l) (sym e) (All-filter p (Contains old) old (All-contains_itself old)); shorter = shorter }

pub among_itself : (xs : List Verdict) → AreAmong xs xs
among_itself xs = record { each = All-contains_itself xs; shorter = omega arith }

pub among_among : (old mid new : List Verdict) → AreAmong old mid → AreAmong mid new → AreAmong old new
among_among old mid new first second =
    record { each = among_all (Contains old) mid new second.each first.each; shorter = omega (arith, first.shorter, second.shorter) }

pub among_none : (old new : List Verdict) → new ≡ [] → AreAmong old new
among_none old new e =
    let P : List Verdict → Type 0 = λ l. AreAmong old l in
    subst P (sym e) (record { each = λ k d within. absurd (omega (arith, within)); shorter = omega arith })

pub none_holds : (P : Verdict → Type 0) (new : List Verdict) → new ≡ [] → All P new
none_holds P new e = let Q : List Verdict → Type 0 = λ l. All P l in subst Q (sym e) (λ k d within. absurd (omega (arith, within)))

-- ---- verdicts elsewhere

both_true : (a b : Bool) → a ≡ true → b ≡ true → not (a && b) ≡ true → ⊥
both_true true true p q e = cc
both_true false b p q e = cc
both_true true false p q e = cc

elsewhere : (table key : List ℕ) (v : Verdict) → is_elsewhere table key v ≡ true → ¬ IsOn table key v
elsewhere table key v is on = both_true _ _ ((bytes_eq-Decides v.key key).1 on.1) ((bytes_eq-Decides v.table table).1 on.0) is

-- none is left where those on an entry are dropped
pub none_on : (table key : List ℕ) (old new : List Verdict) → new ≡ filter (is_elsewhere table key) old → All (λ v. ¬ IsOn table key v) new
none_on table key old new e =
    let P : List Verdict → Type 0 = λ l. All (λ v. ¬ IsOn table key v) l in
    subst P (sym e)
    (All-weaker (λ v. is_elsewhere table key v ≡ true) (λ v. ¬ IsOn table key v) (elsewhere table key) (filter (is_elsewhere table key) old)
    (filter_passes (is_elsewhere table key) old))

-- nor on the entry of a place
pub none_at : (places : List Place) (i : ℕ) (p : Place) (table key : List ℕ) (old new : List Verdict) → table ≡ p.table → key ≡ p.key
    → new ≡ filter (is_elsewhere table key) old → i < length places → p ≡ get_or places i p → (d : Place) → AreElsewhere (get_or places i d) new
none_at places i p table key old new t k e within is d =
    let here : AreElsewhere p new =
    subst (λ x. All (λ v. ¬ IsOn x p.key v) new) t (subst (λ x. All (λ v. ¬ IsOn table x v) new) k (none_on table key old new e)) in
    at_read places (λ q. AreElsewhere q new) i p within is here d

-- what isn't touched in a list isn't in one within it
pub still_untouched : (models : ModelSet) (config : Config) (table key : List ℕ) (old new : List Verdict) → AreAmong old new
    → AreUntouched models config table key old → AreUntouched models config table key new
still_untouched models config table key old new among un = among_all (λ v. ¬ IsTouched models config table key v) old new among.each un

pub still_elsewhere : (p : Place) (old new : List Verdict) → AreAmong old new → AreElsewhere p old → AreElsewhere p new
still_elsewhere p old new among all = among_all (λ v. ¬ IsOn p.table p.key v) old new among.each all

pub still_handled : (models : ModelSet) (config next : Config) (old new : List Verdict) (table key : List ℕ) → AreAmong old new
    → IsHandled models config next old table key → IsHandled models config next new table key
still_handled models config next old new table key among (inl same) = inl same
still_handled models config next old new table key among (inr un) = inr (still_untouched models config table key old new among un)

-- ---- entries that want what a key has

-- the field of a place that has a want has a name
some_field : (shape : Shape) (models : ModelSet) (config : Config) (row : Row) (field : Option ℕ) (item : ℕ) (w : Want)
    → IsWantedText models config (typed_text shape row field item) w → (f : Option (List ℕ)) × (field_name row.fields field ≡ Some f)
some_field shape models config row None item w is = (None, refl)
some_field shape models config row (Some i) item w is = by (slice_get row.fields i) is
  where
    by : (o : Option _) → IsWantedText models config (option_and_then (λ ts. option_map (λ s. (ts.0, s)) (slice_get ts.1 item)) (option_and_then (texts_of shape) o)) w
        → (f : Option (List ℕ)) × (option_map (λ (p : _). Some p.0) o ≡ Some f)
    by None is = absurd is
    by (Some p) is = (Some p.0, refl)

module _ (models : ModelSet) (config : Config) (table key : List ℕ) where
  -- the place of a want, by its names
  pub wanting_place : (v : Verdict) (w : Wants models config table key v) → (p : Place) × IsOn p.table p.key v
      × HasWant models config (want_for table w.want.target.shape w.want.target.part w.want.text) p
  wanting_place v w =
      let is = w.wanted in
      let named = some_field is.shape models config is.row w.place.field w.place.item w.want is.wanted in
      let row : row_of v.table v.key w.at.fields ≡ is.row =
      row_only models config w.place.table w.place.key (v.table, w.at.entries) (v.key, w.at.fields) w.at.at w.at.at_key is.row is.at in
      let fields : field_name w.at.fields w.place.field ≡ Some named.0 = ap (λ (r : Row). field_name r.fields w.place.field) row ∙ named.1 in
      let want : w.want ≡ want_for table w.want.target.shape w.want.target.part w.want.text =
      λ i. record { target = record { table = w.meets.in_table i; shape = w.want.target.shape; part = w.want.target.part }; text = w.want.text } in (
        record { table = v.table; key = v.key; field = named.0; item = w.place.item },
        (refl, refl),
        record {
          position = w.place;
          at = record { entry = w.at; field = fields; item = refl };
          wanted = subst (λ x. IsWantAt models config w.place x) want w.wanted;
        },
      )

  -- entries of no shape are wanted by none
  pub not_wanted : Belongs (shapes_of table models) key None → (v : Verdict) → ¬ Wants models config table key v
  not_wanted none v w =
      let e : None ≡ Some w.want.target.shape = Belongs-once (shapes_of table models) key None (Some w.want.target.shape) none w.meets.belongs in
      cc

  -- nor where the verdicts on those that want a part are dropped, for each part
  pub not_left : (shape : ℕ) (verdicts : List Verdict) → Belongs (shapes_of table models) key (Some shape)
      → ((part : ℕ) (text : List ℕ) (p : Place) → slice_get (key_parts key) part ≡ Some text → HasWant models config (want_for table shape part text) p → AreElsewhere p verdicts)
      → (v : Verdict) → Contains verdicts v → ¬ Wants models config table key v
  not_left shape verdicts here dropped v has w =
      let e : Some w.want.target.shape ≡ Some shape = Belongs-once (shapes_of table models) key (Some w.want.target.shape) (Some shape) w.meets.belongs here in
      let same : w.want.target.shape ≡ shape = cc in
      let at = wanting_place v w in
      let wants : HasWant models config (want_for table shape w.want.target.part w.want.text) at.0 =
      subst (λ s. HasWant models config (want_for table s w.want.target.part w.want.text) at.0) same at.2 in
      All-contains (λ x. ¬ IsOn at.0.table at.0.key x) verdicts v (dropped w.want.target.part w.want.text at.0 w.meets.part wants) has at.1

  -- no verdict is left that a change of the entry may turn
  pub none_touched : (verdicts : List Verdict) → All (λ v. ¬ IsOn table key v) verdicts → ((v : Verdict) → Contains verdicts v → ¬ Wants models config table key v)
      → AreUntouched models config table key verdicts
  none_touched verdicts on wants i d within (inl is) = on i d within is
  none_touched verdicts on wants i d within (inr is) = wants (get_or verdicts i d) (Contains-get_or verdicts i d within) is

-- ---- tables gone through

module _ (models : ModelSet) (config next : Config) (formed : IsConfig config) (t : ℕ) (name : List ℕ) (entries : Table)
    (named : slice_get (map (λ p. p.0) config) t ≡ Some name) (part : slice_get (map (λ p. p.1) config) t ≡ Some entries) where
  here : (table key : List ℕ) (k : ℕ) (is : IsEntryAt config table key t k) → ◌≡◌ {A = List ℕ × Table} (table, is.entries) (name, entries)
  here table key k is = some_same (table, is.entries) (name, entries) (sym is.at ∙ pair_at config t name entries named part)

  -- the name is handled where no verdict on an entry that reads the table is left
  pub name_unread : (verdicts : List Verdict) → AreUnread models name verdicts → IsTableHandledAt models config next verdicts config t
  name_unread verdicts unread other at = inr (subst (λ n. AreUnread models n verdicts) (some_same name other (sym named ∙ at)) unread)

  module _ (o : Option (Bor Table)) (others : IfSome o (λ v. find name next ≡ Some v.now)) where
    through : (key : List ℕ) (p : Option (Bor Table)) → option_and_then (find key) (option_map (λ v. v.now) p) ≡ option_and_then (λ v. find key v.now) p
    through key None = refl
    through key (Some v) = refl

    -- what the other table of the name has, the other configuration has
    next_has : (key : List ℕ) (e : Entry) (p : Option (Bor Table)) → IfSome p (λ v. find name next ≡ Some v.now) → option_and_then (λ v. find key v.now) p ≡ Some e
        → option_and_then (find key) (find name next) ≡ Some e
    next_has key e None is found = cc
    next_has key e (Some v) is found = ap (λ (q : Option Table). option_and_then (find key) q) is ∙ found

    next_same : (p : Option (Bor Table)) → IfSome p (λ v. find name next ≡ Some v.now) → option_map (λ v. v.now) p ≡ Some entries → find name next ≡ Some entries
    next_same None is same = cc
    next_same (Some v) is same = is ∙ same

    -- an entry that the other table of the name has is the same
    same_in : (table key : List ℕ) (k : ℕ) (is : IsEntryAt config table key t k) → option_and_then (λ v. find key v.now) o ≡ Some is.fields → IsSame config next table key
    same_in table key k is found =
        ap (λ (q : List ℕ × Table). option_and_then (find key) (find q.0 next)) (here table key k is)
        ∙ next_has key is.fields o others found
        ∙ sym (entry_found config table key t k formed is)

    -- all are where the table is
    pub table_same : (verdicts : List Verdict) → option_map (λ v. v.now) o ≡ Some entries → (n : ℕ) → AreKeysHandled models config next verdicts t n
    table_same verdicts same n table key k is lt =
        let rises : IsRising is.entries = table_rises config t is.entries formed.parts (right_at config t (table, is.entries) is.at) in
        let mine : find key entries ≡ Some is.fields =
        ap (λ (q : List ℕ × Table). find key q.1) (sym (here table key k is)) ∙ found_at is.entries key k is.fields rises is.at_key in
        inl (same_in table key k is (sym (through key o) ∙ ap (λ (p : Option Table). option_and_then (find key) p) same ∙ mine))

    -- and so is its name
    pub name_same : (verdicts : List Verdict) → option_map (λ v. v.now) o ≡ Some entries → IsTableHandledAt models config next verdicts config t
    name_same verdicts same other at =
        let mine : find name config ≡ find name next =
        found_at config name t entries formed.shaped.rising (pair_at config t name entries named part) ∙ sym (next_same o others same) in
        inl (subst (λ n. find n config ≡ find n next) (some_same name other (sym named ∙ at)) mine)

    -- one more key
    pub keys_more : (old new : List Verdict) (i : ℕ) (key : List ℕ) (e : Entry) (other : Option (Bor Entry)) → AreKeysHandled models config next old t i → AreAmong old new
        → slice_get (map (λ p. p.0) entries) i ≡ Some key → slice_get (map (λ p. p.1) entries) i ≡ Some e
        → IfSome other (λ x. option_and_then (λ v. find key v.now) o ≡ Some x.now)
        → (option_map (λ x. x.now) other ≡ Some e) ⊎ AreUntouched models config name key new → AreKeysHandled models config next new t (i + 1)
    keys_more old new i key e other before among at_key at_e passed here_is table alike k is lt =
        elim (cases_lt k i) [
          | inl less ↦ still_handled models config next old new table alike among (before table alike k is less)
          | inr more ↦
              let same : k ≡ i = omega arith in
              let mine : Some (alike, is.fields) ≡ Some (key, e) =
              sym is.at_key ∙ ap (slice_get is.entries) same ∙ ap (λ (q : List ℕ × Table). slice_get q.1 i) (here table alike k is) ∙ pair_at entries i key e at_key at_e in
              this_key table alike k is (some_same (alike, is.fields) (key, e) mine) here_is
        ]
      where
        by_other : (x : Option (Bor Entry)) → IfSome x (λ x. option_and_then (λ v. find key v.now) o ≡ Some x.now) → option_map (λ x. x.now) x ≡ Some e
            → option_and_then (λ v. find key v.now) o ≡ Some e
        by_other None found same = cc
        by_other (Some x) found same = found ∙ same

        this_key : (table alike : List ℕ) (k : ℕ) (is : IsEntryAt config table alike t k) → ◌≡◌ {A = List ℕ × Entry} (alike, is.fields) (key, e)
            → (option_map (λ x. x.now) other ≡ Some e) ⊎ AreUntouched models config name key new → IsHandled models config next new table alike
        this_key table alike k is pair (inl same) =
            let P : List ℕ × Entry → Type 0 = λ q. option_and_then (λ v. find q.0 v.now) o ≡ Some q.1 in
            inl (same_in table alike k is (subst P (sym pair) (by_other other passed same)))
        this_key table alike k is pair (inr un) =
            let P : List ℕ × Table → Type 0 = λ q. AreUntouched models config q.0 alike new in
            let Q : List ℕ × Entry → Type 0 = λ q. AreUntouched models config name q.0 new in
            inr (subst P (sym (here table alike k is)) (subst Q (sym pair) un))

-- no key is before the first, nor a table
pub keys_start : (models : ModelSet) (config next : Config) (verdicts : List Verdict) (t : ℕ) → AreKeysHandled models config next verdicts t 0
keys_start models config next verdicts t table key k is lt = absurd (omega (arith, lt))

pub tables_start : (models : ModelSet) (config next : Config) (verdicts : List Verdict) → AreHandled models config next verdicts 0
tables_start models config next verdicts table key t k is lt = absurd (omega (arith, lt))

-- past the last key all of a table are done
pub keys_end : (models : ModelSet) (config next : Config) (verdicts : List Verdict) (t i : ℕ) (entries : Table) → slice_get (map (λ p. p.1) config) t ≡ Some entries
    → length entries ≤ i → AreKeysHandled models config next verdicts t i → (n : ℕ) → AreKeysHandled models config next verdicts t n
keys_end models config next verdicts t i entries part past all n table key k is lt =
    let same : is.entries ≡ entries = some_same is.entries entries (sym (right_at config t (table, is.entries) is.at) ∙ part) in
    let within : k < length is.entries = slice_get_within is.entries k (key, is.fields) is.at_key in
    let len : length is.entries ≡ length entries = ap length same in
    all table key k is (omega (arith, within, len, past))

-- one more table
pub tables_more : (models : ModelSet) (config next : Config) (old new : List Verdict) (t : ℕ) → AreHandled models config next old t → AreAmong old new
    → ((n : ℕ) → AreKeysHandled models config next new t n) → AreHandled models config next new (t + 1)
tables_more models config next old new t before among keys table key u k is lt =
    elim (cases_lt u t) [
      | inl less ↦ still_handled models config next old new table key among (before table key u k is less)
      | inr more ↦
          let same : u ≡ t = omega arith in
          keys (k + 1) table key k (subst (λ v. IsEntryAt config table key v k) same is) (omega arith)
    ]

-- ---- the names of tables

pub still_table : (models : ModelSet) (config next : Config) (old new : List Verdict) (name : List ℕ) → AreAmong old new
    → IsTableHandled models config next old name → IsTableHandled models config next new name
still_table models config next old new name among (inl same) = inl same
still_table models config next old new name among (inr unread) = inr (among_all (λ v. ¬ Reads models name v) old new among.each unread)

pub still_unread : (models : ModelSet) (name : List ℕ) (old new : List Verdict) → AreAmong old new → AreUnread models name old → AreUnread models name new
still_unread models name old new among unread = among_all (λ v. ¬ Reads models name v) old new among.each unread

-- one more name whose readers are dropped
pub names_added : (models : ModelSet) (config next : Config) (old new : List Verdict) (u : ℕ) (name : List ℕ)
    → ((k : ℕ) (n : List ℕ) → k < u → slice_get (map (λ p. p.0) next) k ≡ Some n → find n config ≡ None → AreUnread models n old) → AreAmong old new
    → slice_get (map (λ p. p.0) next) u ≡ Some name → (find name config ≡ None → AreUnread models name new)
    → (k : ℕ) (n : List ℕ) → k < u + 1 → slice_get (map (λ p. p.0) next) k ≡ Some n → find n config ≡ None → AreUnread models n new
names_added models config next old new u name before among named unread k n lt at lacks =
    elim (cases_lt k u) [
      | inl less ↦ still_unread models n old new among (before k n less at lacks)
      | inr more ↦
          let same : k ≡ u = omega arith in
          let is : name ≡ n = some_same name n (sym named ∙ subst (λ j. slice_get (map (λ p. p.0) next) j ≡ Some n) same at) in
          subst (λ x. AreUnread models x new) is (unread (subst (λ (x : List ℕ). find x config ≡ None) (sym is) lacks))
    ]

pub names_start : (models : ModelSet) (config next : Config) (verdicts : List Verdict) (of : Config) → AreTablesHandled models config next verdicts of 0
names_start models config next verdicts of t lt name at = absurd (omega (arith, lt))

-- one more
pub names_step : (models : ModelSet) (config next : Config) (old new : List Verdict) (of : Config) (t : ℕ) → AreTablesHandled models config next old of t → AreAmong old new
    → IsTableHandledAt models config next new of t → AreTablesHandled models config next new of (t + 1)
names_step models config next old new of t before among here u lt name at =
    elim (cases_lt u t) [
      | inl less ↦ still_table models config next old new name among (before u less name at)
      | inr past ↦ let same : u ≡ t = omega arith in here name (subst (λ j. slice_get (map (λ p. p.0) of) j ≡ Some name) same at)
    ]

-- none more
pub names_past : (models : ModelSet) (config next : Config) (old new : List Verdict) (of : Config) (t n : ℕ) → AreTablesHandled models config next old of t → AreAmong old new
    → n ≤ t → AreTablesHandled models config next new of n
names_past models config next old new of t n before among past u lt name at =
    still_table models config next old new name among (before u (omega (arith, lt, past)) name at)

-- past the last name of both each name is handled
all_names : (models : ModelSet) (config next : Config) (verdicts : List Verdict) → AreTablesHandled models config next verdicts config (length config)
    → ((u : ℕ) (n : List ℕ) → u < length next → slice_get (map (λ p. p.0) next) u ≡ Some n → find n config ≡ None → AreUnread models n verdicts)
    → (name : List ℕ) → IsTableHandled models config next verdicts name
all_names models config next verdicts firsts added name = by (find name config) refl (find name next) refl
  where
    by : (o : Option Table) → find name config ≡ o → (p : Option Table) → find name next ≡ p → IsTableHandled models config next verdicts name
    by (Some e) is p also =
        let at = found_there config name e is in
        firsts at.0 (slice_get_within config at.0 (name, e) at.1) name (left_at config at.0 (name, e) at.1)
    by None is (Some e) also =
        let at = found_there next name e also in
        inr (added at.0 name (slice_get_within next at.0 (name, e) at.1) (left_at next at.0 (name, e) at.1) is)
    by None is None also = inl (is ∙ sym also)

-- models of files with which nothing is wrong have musts of one truth
pub one_truth : (models : ModelSet) → HaveFiles models
    → ((files : List (List Declaration)) (readers : Readers) → faults readers files ≡ [] → HasOneTruth (models_of stored (modules_of files) readers)) → HasOneTruth models
one_truth models have law = subst (λ m. HasOneTruth m) (sym have.are) (law have.files have.readers have.none)

-- past the last table the verdicts that are left stay true
pub tables_end : (models : ModelSet) (config next : Config) (old new : List Verdict) → IsConfig config → IsConfig next → HasOneTruth models → AreAmong old new
    → AreHandled models config next new (length config) → AreTablesHandled models config next new config (length config)
    → ((u : ℕ) (n : List ℕ) → u < length next → slice_get (map (λ p. p.0) next) u ≡ Some n → find n config ≡ None → AreUnread models n new)
    → AreSound models config old → AreSound models next new
tables_end models config next old new formed_config formed_next truth among all firsts added sound =
    all_sound models config next formed_config formed_next new
    (λ table key t k is. all table key t k is (slice_get_within config t (table, is.entries) is.at))
    (all_names models config next new firsts added)
    truth
    (among_all (IsSound models config) old new among.each sound)
