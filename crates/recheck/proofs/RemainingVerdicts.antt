-- Verdicts that are left where only those are dropped that a change may turn.
use Rattle.std.proofs.Common.{◌≡◌, ◌⊎◌, ◌<◌, ℕ, Bool, true, false, not, IsTrue, List, map, filter, length, get_or, Option, Some, None, option_map, option_and_then, is_some, slice_get, refl, sym, ap, ◌∙◌, subst, inl, inr, arith}
use Rattle.std.specs.Prelude.{IfSome}
use Rattle.std.proofs.lemmas.Bool.{and_parts}
use Rattle.std.proofs.lemmas.Option.{none-some, slice_get_within}
use Rattle.std.proofs.lemmas.Slice.Eq.{bytes_eq-Decides}
use denote.Ref.{Bor}
use Rattle.conf_doc.specs.Pairs.{find}
use Rattle.conf_doc.specs.WellFormed.{IsConfig}
use Rattle.conf_doc.specs.declared.configuration.Config.{Config}
use Rattle.conf_doc.specs.declared.configuration.Entry.{Entry}
use Rattle.conf_doc.specs.declared.configuration.Table.{Table}
use Rattle.key_split.specs.Key.{key_parts}
use Rattle.yang_model.specs.Belongs.{Belongs}
use Rattle.yang_model.specs.ModelSets.{ModelSet, shapes_of}
use Rattle.conf_check.specs.Rows.{IsEntryAt}
use Rattle.ref_index.specs.Agreements.{entry_of}
use Rattle.ref_index.specs.Referrers.{want_for}
use Rattle.ref_index.specs.declared.places.Place.{Place}
use Rattle.recheck.specs.Changes.{AreUntouched, IsHandled, IsOnOne, MayWantPart}
use Rattle.recheck.specs.Turned.{IsOn, IsTurned, MayTouch}
use Rattle.recheck.specs.Verdicts.{is_elsewhere}
use Rattle.recheck.specs.Within.{IsLeft}
use Rattle.recheck.specs.declared.verdicts.Verdict.{Verdict}
use Rattle.recheck.proofs.Lists.{entry_found}
use Rattle.recheck.proofs.Pairs.{found_at, holder_at, pair_at}
use Rattle.recheck.proofs.ParallelWalks.{left_filter, left_then}

pub not_so : (b : Bool) (P : Type 0) → b ≡ false → (P → IsTrue b) → P → ⊥
not_so b P e f p = let t = f p in cc

-- more are dropped for the same reason
pub left_more : (D : Verdict → Type 0) (old mid new : List Verdict) → IsLeft D old mid → IsLeft D mid new → IsLeft D old new
left_more D old mid new = left_then D D D (λ v d. d) (λ v d. d) old mid new

-- ---- those of an entry

not_not : (b : Bool) → not b ≡ false → b ≡ true
not_not true e = refl
not_not false e = cc

pub on_by : (table key : List ℕ) (v : Verdict) → is_elsewhere table key v ≡ false → IsOn table key v
on_by table key v e =
    let parts = and_parts _ _ (not_not _ e) in
    ((bytes_eq-Decides v.table table).0 parts.1, (bytes_eq-Decides v.key key).0 parts.0)

pub one_left : (places : List Place) (i : ℕ) (p : Place) (table key : List ℕ) (old new : List Verdict) → table ≡ p.table → key ≡ p.key
    → new ≡ filter (is_elsewhere table key) old → i < length places → p ≡ get_or places i p → IsLeft (IsOnOne places) old new
one_left places i p table key old new t k e within is =
    left_filter (is_elsewhere table key) (IsOnOne places)
    (λ v away. let on = on_by table key v away in (p, (i, within, sym is), (on.0 ∙ t, on.1 ∙ k))) old new e

module _ (models : ModelSet) (config : Config) where
  -- an entry that has a text of a want that a part of the key meets is touched
  pub touched_by : (table key : List ℕ) (shape part : ℕ) (v : Verdict) → Belongs (shapes_of table models) key (Some shape)
      → MayWantPart models config table shape key part v → MayTouch models config table key v
  touched_by table key shape part v belongs (text, at, inr big) =
      let within = slice_get_within (key_parts key) part text at in
      inr (omega (arith, within, big))
  touched_by table key shape part v belongs (text, at, inl has) =
      let p = has.0 in
      let want = has.1 in
      let on = has.2 in
      let entry : IsEntryAt config v.table v.key want.position.table want.position.key =
      subst (λ t. IsEntryAt config t v.key want.position.table want.position.key) (sym on.0)
      (subst (λ k. IsEntryAt config p.table k want.position.table want.position.key) (sym on.1) want.at.entry) in
      inl (inr (record {
        place = want.position;
        want = want_for table shape part text;
        at = entry;
        wanted = want.wanted;
        meets = record { in_table = refl; belongs = belongs; part = at };
      }))

-- ---- those of a table

through : (key : List ℕ) (p : Option (Bor Table)) → option_and_then (find key) (option_map (λ v. v.now) p) ≡ option_and_then (λ v. find key v.now) p
through key None = refl
through key (Some v) = refl

-- what is read by a borrow, in the words of those that read on
pub some_of : {A : Type 0} (o : Option (Bor A)) (x : Option A) → option_map (λ v. v.now) o ≡ x → IfSome o (λ v. x ≡ Some v.now)
some_of None x is = tt
some_of (Some v) x is = sym is

module _ (models : ModelSet) (config next : Config) (formed : IsConfig config) (t : ℕ) (name : List ℕ) (entries : Table)
    (named : slice_get (map (λ p. p.0) config) t ≡ Some name) (part : slice_get (map (λ p. p.1) config) t ≡ Some entries)
    (others : Option (Bor Table)) (read : option_map (λ v. v.now) others ≡ find name next) where
  pub table_differs : (b : Bool) → b ≡ false → (option_map (λ v. v.now) others ≡ Some entries → IsTrue b) → find name config ≡ find name next → ⊥
  table_differs b e f same =
      let mine : find name config ≡ Some entries = found_at config name t entries formed.shaped.rising (pair_at config t name entries named part) in
      not_so b (option_map (λ v. v.now) others ≡ Some entries) e f (read ∙ sym same ∙ mine)

  module _ (i : ℕ) (key : List ℕ) (entry : Entry) (keyed : slice_get (map (λ p. p.0) entries) i ≡ Some key) (held : slice_get (map (λ p. p.1) entries) i ≡ Some entry)
      (other : Option (Bor Entry)) (found : option_map (λ v. v.now) other ≡ option_and_then (λ v. find key v.now) others) where
    abbrev at : IsEntryAt config name key t i
    at = record { entries = entries; at = pair_at config t name entries named part; fields = entry; at_key = pair_at entries i key entry keyed held }

    mine : entry_of name key config ≡ Some entry
    mine = entry_found config name key t i formed at

    theirs : entry_of name key next ≡ option_map (λ v. v.now) other
    theirs = ap (λ (o : Option Table). option_and_then (find key) o) (sym read) ∙ through key others ∙ sym found

    -- an entry that isn't the same turns what it touches
    pub entry_turns : (v : Verdict) → (¬ (option_map (λ v. v.now) other ≡ Some entry)) × MayTouch models config name key v → IsTurned models config next v
    entry_turns v is =
        inl (record { table = name; key = key; there = ap is_some mine; differs = λ same. is.0 (sym theirs ∙ same ∙ mine); touches = is.1 })

-- a table that the first lacks isn't the same in the second, which has it at a place
pub added_differs : (config next : Config) → IsConfig next → (u : ℕ) (name : List ℕ) → slice_get (map (λ p. p.0) next) u ≡ Some name → find name config ≡ None
    → find name config ≡ find name next → ⊥
added_differs config next formed u name at lacks same =
    let held = holder_at next u name at in
    let there : find name next ≡ Some held.0 = found_at next name u held.0 formed.shaped.rising held.1 in
    none-some held.0 (sym lacks ∙ same ∙ there)

-- ---- one entry

pub there_none : {A : Type 0} (o : Option A) → None ≡ o → IsTrue (is_some o) → ⊥
there_none None is there = cc
there_none (Some x) is there = none-some x is

module _ (models : ModelSet) (config next : Config) (table key : List ℕ) (entry : Entry) (other : Option (Bor Entry))
    (here : Some entry ≡ entry_of table key config) (found : option_map (λ e. e.now) other ≡ entry_of table key next) where
  pub one_handled : (new : List Verdict) → (option_map (λ e. e.now) other ≡ Some entry) ⊎ AreUntouched models config table key new
      → IsHandled models config next new table key
  one_handled new (inl same) = inl (sym found ∙ same ∙ here)
  one_handled new (inr none) = inr none

  pub one_turns : (v : Verdict) → (¬ (option_map (λ e. e.now) other ≡ Some entry)) × MayTouch models config table key v → IsTurned models config next v
  one_turns v is =
      inl (record { table = table; key = key; there = ap is_some (sym here); differs = λ same. is.0 (found ∙ same ∙ sym here); touches = is.1 })

-- ---- what is found or not

pub some_none : {A : Type 0} (o : Option (Bor A)) (x : Option A) (b : Bool) → option_map (λ v. v.now) o ≡ x → b ≡ is_some o → b ≡ true → x ≡ None → ⊥
some_none None x b is says holds none = cc
some_none (Some v) x b is says holds none = none-some v.now (sym none ∙ sym is)

pub not_some : {A : Type 0} (o : Option (Bor A)) (x : Option A) (b : Bool) → option_map (λ v. v.now) o ≡ x → b ≡ is_some o → b ≡ false → x ≡ None
not_some None x b is says holds = sym is
not_some (Some v) x b is says holds = cc
