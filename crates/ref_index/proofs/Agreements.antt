-- Two configurations that agree but for one entry, which is in both or in neither.
use Rattle.std.proofs.Common.{◌≡◌, ◌≢◌, ◌⊎◌, inl, inr, ℕ, zero, suc, true, false, List, [], ◌∷◌, map, Option, Some, None, option_and_then, is_some, slice_get, refl, sym, ap, ◌∙◌, subst}
use Rattle.std.specs.List.{Contains}
use Rattle.std.specs.Option.{option_map_or}
use Rattle.std.specs.Str.{bytes_eq}
use Rattle.std.proofs.lemmas.Bool.Decides.{not_from_Decides}
use Rattle.std.proofs.lemmas.Slice.Eq.{bytes_eq-Decides}
use Rattle.conf_doc.specs.Pairs.{IsRising, find}
use Rattle.conf_doc.specs.WellFormed.{Each, IsConfig, IsTable}
use Rattle.conf_doc.specs.declared.configuration.Config.{Config}
use Rattle.conf_doc.specs.declared.configuration.Entry.{Entry}
use Rattle.conf_doc.specs.declared.configuration.Table.{Table}
use Rattle.conf_doc.proofs.Edits.{same_Some}
use Rattle.yang_model.specs.ModelSets.{ModelSet}
use Rattle.conf_check.specs.Acceptance.{keys_of}
use Rattle.conf_check.specs.Rows.{Row, IsEntryAt, typed_text}
use Rattle.ref_index.specs.Agreements.{AgreeBut, entry_of}
use Rattle.ref_index.specs.EntryNames.{AreDifferences, AreTogether, HasEntry, HasOthers, HoldsParts, IsNamed, StayNamed, entries_of}
use Rattle.ref_index.specs.Referrers.{HasWant}
use Rattle.ref_index.specs.Referring.{may_refer}
use Rattle.ref_index.specs.Texts.{Has, HasNoneOf}
use Rattle.ref_index.specs.declared.entry_names.EntryName.{EntryName}
use Rattle.ref_index.specs.declared.text_sets.TextSet.{TextSet}
use Rattle.ref_index.proofs.NamedEntries.{entry_of_key, entry_of_place, finds_part, found_at, item_at, name_at, place_of_entry, same_keys}
use Rattle.ref_index.proofs.Leafrefs.{refers_nowhere}
use Rattle.ref_index.proofs.SameEntries.{Satisfies, carried_want, row_of_want, same_want, text_of_want}
use Rattle.ref_index.proofs.SameWants.{HasKeys, satisfies}
use Rattle.ref_index.proofs.UnrelatedTypes.{SatisfiesElsewhere, wanted_elsewhere}

-- one name, or another
pub by_name : (a b : List ℕ) (P : Type 0) → (a ≡ b → P) → (a ≢ b → P) → P
by_name a b P same other =
    elim (bytes_eq a b) as (λ x. bytes_eq a b ≡ x → P) [
      | true ↦ λ e. same ((bytes_eq-Decides a b).0 e)
      | false ↦ λ e. other (not_from_Decides (bytes_eq a b) (bytes_eq-Decides a b) e)
    ] refl

-- ---- the entry of two names

-- each table of a configuration rises
table_rises : (c : Config) (i : ℕ) (t : List ℕ) (entries : Table) → Each IsTable c → slice_get c i ≡ Some (t, entries) → IsRising entries
table_rises [] i t entries all at = absurd cc
table_rises (p ∷ c) zero t entries all at = subst (λ (q : List ℕ × Table). IsRising q.1) (same_Some p (t, entries) at) all.0.shaped.rising
table_rises (p ∷ c) (suc i) t entries all at = table_rises c i t entries all.1 at

-- an entry at positions is that of its names
entry_found : (c : Config) (t k : List ℕ) (i j : ℕ) → IsConfig c → (is : IsEntryAt c t k i j) → entry_of t k c ≡ Some is.fields
entry_found c t k i j formed is =
    ap (λ (o : Option Table). option_and_then (find k) o) (finds_part c i (t, is.entries) formed.shaped.rising is.at)
    ∙ finds_part is.entries j (k, is.fields) (table_rises c i t is.entries formed.parts is.at) is.at_key

-- that of two names has a place
entry_placed : (c : Config) (t k : List ℕ) (e : Entry) → entry_of t k c ≡ Some e → (i j : ℕ) × (is : IsEntryAt c t k i j) × (is.fields ≡ e)
entry_placed c t k e found = by (find t c) refl found
  where
    by : (o : Option Table) → find t c ≡ o → option_and_then (find k) o ≡ Some e → (i j : ℕ) × (is : IsEntryAt c t k i j) × (is.fields ≡ e)
    by None is found = absurd cc
    by (Some entries) is found =
        let at = found_at c t entries is in
        let at_key = found_at entries k e found in
        (at.0, at_key.0, record { entries = entries; at = at.1; fields = e; at_key = at_key.1 }, refl)

-- a key of a table is that of an entry
key_found : (c : Config) (t k : List ℕ) → IsConfig c → Contains (keys_of t c) k → (e : Entry) × (entry_of t k c ≡ Some e)
key_found c t k formed has =
    let other = entry_of_key (entries_of c t) k (subst (λ ks. Contains ks k) (same_keys c t) has) in
    let place = place_of_entry c t k other.0 other.1 in
    (place.2.fields, entry_found c t k place.0 place.1 formed place.2)

found_key : (c : Config) (t k : List ℕ) (e : Entry) → entry_of t k c ≡ Some e → Contains (keys_of t c) k
found_key c t k e found = by (find t c) found
  where
    by : (o : Option Table) → option_and_then (find k) o ≡ Some e → Contains (option_map_or (map (λ e. e.0)) o []) k
    by None found = absurd cc
    by (Some entries) found = let at = found_at entries k e found in item_at (map (λ e. e.0) entries) at.0 k (name_at entries at.0 (k, e) at.1)

there : {A : Type 0} (o : Option A) → is_some o ≡ true → (a : A) × (o ≡ Some a)
there None e = absurd cc
there (Some a) e = (a, refl)

pub turned : (a b : Config) (table key : List ℕ) → AgreeBut a b table key → AgreeBut b a table key
turned a b table key agree = record { tables = λ t other. sym (agree.tables t other); entries = λ k other. sym (agree.entries k other) }

module _ (a b : Config) (table key : List ℕ) (agree : AgreeBut a b table key) where
  -- the entry of two names is the same in both, or it is the one
  pub same_or_one : (t k : List ℕ) → (entry_of t k a ≡ entry_of t k b) ⊎ ((t ≡ table) × (k ≡ key))
  same_or_one t k = by_name t table ((entry_of t k a ≡ entry_of t k b) ⊎ ((t ≡ table) × (k ≡ key)))
      (λ here. by_name k key ((entry_of t k a ≡ entry_of t k b) ⊎ ((t ≡ table) × (k ≡ key)))
      (λ this. inr (here, this))
      (λ other. inl (subst (λ u. entry_of u k a ≡ entry_of u k b) (sym here) (agree.entries k other))))
      (λ other. inl (ap (option_and_then (find k)) (agree.tables t other)))

  module _ (formed : IsConfig a) (both : is_some (entry_of table key a) ≡ is_some (entry_of table key b)) where
    -- each key of the first is one of the second
    key_stays : (t k : List ℕ) → Contains (keys_of t a) k → Contains (keys_of t b) k
    key_stays t k has =
        let here = key_found a t k formed has in
        elim (same_or_one t k) [
          | inl same ↦ found_key b t k here.0 (sym same ∙ here.1)
          | inr one ↦
              let in_first : entry_of table key a ≡ Some here.0 = ap (λ u. entry_of u key a) (sym one.0) ∙ ap (λ l. entry_of t l a) (sym one.1) ∙ here.1 in
              let other = there (entry_of table key b) (sym both ∙ ap is_some in_first) in
              found_key b t k other.0 (ap (λ u. entry_of u k b) one.0 ∙ ap (λ l. entry_of table l b) one.1 ∙ other.1)
        ]

    pub key_satisfies : (models : ModelSet) (s : List ℕ) → Satisfies models s a b
    key_satisfies models s r is = record { key = is.key; there = key_stays r.table is.key is.there; belongs = is.belongs; part = is.part }

module _ (models : ModelSet) where
  others : (a b : Config) (table key : List ℕ) (names : List EntryName) → AgreeBut a b table key → IsConfig a → IsConfig b
      → is_some (entry_of table key a) ≡ is_some (entry_of table key b) → IsNamed names table key → HasOthers models a b names
  others a b table key names agree formed well both named w p has =
      elim (same_or_one a b table key agree p.table p.key) [
        | inr one ↦ inr (subst (λ t. IsNamed names t p.key) (sym one.0) (subst (IsNamed names table) (sym one.1) named))
        | inl same ↦
            let place = entry_placed b p.table p.key has.at.entry.fields (sym same ∙ entry_found a p.table p.key has.position.table has.position.key formed has.at.entry) in
            inl (same_want models a b has.position w p has.at has.wanted place.0 place.1 place.2 (sym place.3)
            (key_satisfies a b table key agree formed both models w.text) (key_satisfies b a table key (turned a b table key agree) well (sym both) models w.text))
      ]

  -- where the one entry is in both or in neither, the wants of no other may differ
  pub one_differs : (a b : Config) (table key : List ℕ) (names : List EntryName) → AgreeBut a b table key → IsConfig a → IsConfig b
      → is_some (entry_of table key a) ≡ is_some (entry_of table key b) → IsNamed names table key → AreDifferences models a b names
  one_differs a b table key names agree formed well both named = record {
    of_first = others a b table key names agree formed well both named;
    of_second = others b a table key names (turned a b table key agree) well formed (sym both) named;
  }

-- a key that the second lacks is that of the one
keys_but : (a b : Config) (table key : List ℕ) (names : List EntryName) → AgreeBut a b table key → IsConfig a → IsNamed names table key → HasKeys a b names
keys_but a b table key names agree formed named t k has =
    let here = key_found a t k formed (subst (λ ks. Contains ks k) (sym (same_keys a t)) has) in
    elim (same_or_one a b table key agree t k) [
      | inl same ↦ inl (subst (λ ks. Contains ks k) (same_keys b t) (found_key b t k here.0 (sym same ∙ here.1)))
      | inr one ↦ inr (subst (λ u. IsNamed names u k) (sym one.0) (subst (IsNamed names table) (sym one.1) named))
    ]

-- both satisfy the same of tables of other names
elsewhere : (models : ModelSet) (a b : Config) (table key s : List ℕ) → AgreeBut a b table key → SatisfiesElsewhere models table s a b
elsewhere models a b table key s agree r other is = record {
  key = is.key;
  there = subst (λ (o : Option Table). Contains (option_map_or (map (λ e. e.0)) o []) is.key) (agree.tables r.table other) is.there;
  belongs = is.belongs;
  part = is.part;
}

-- entries of tables that may refer to the table are together, or they are named
abbrev HaveReferring : ModelSet → List ℕ → TextSet → Config → Config → List EntryName → Type 0
HaveReferring models to parts a b names =
    (t k : List ℕ) (x y : Entry) → may_refer models t to ≡ true → HasEntry (entries_of a t) k x → HasEntry (entries_of b t) k y → AreTogether parts k x y ⊎ IsNamed names t k

module _ (models : ModelSet) (table key : List ℕ) (one names : List EntryName) (parts : TextSet) (named : IsNamed one table key) (holds : HoldsParts one parts)
    (stay : StayNamed one names) where
  referring_others : (a b : Config) → AgreeBut a b table key → IsConfig a → IsConfig b → HaveReferring models table parts a b names → HasOthers models a b names
  referring_others a b agree formed well entries w p has =
      elim (same_or_one a b table key agree p.table p.key) [
        | inr is ↦ inr (subst (λ t. IsNamed names t p.key) (sym is.0) (subst (IsNamed names table) (sym is.1) (stay table key named)))
        | inl same ↦ elim (may_refer models p.table table) as (λ x. may_refer models p.table table ≡ x → HasWant models b w p ⊎ IsNamed names p.table p.key) [
          | true ↦ λ may. referring same may
          | false ↦ λ apart. inl (unreferring same apart)
        ] refl
      ]
    where
      place : entry_of p.table p.key a ≡ entry_of p.table p.key b → (i j : ℕ) × (is : IsEntryAt b p.table p.key i j) × (is.fields ≡ has.at.entry.fields)
      place same = entry_placed b p.table p.key has.at.entry.fields (sym same ∙ entry_found a p.table p.key has.position.table has.position.key formed has.at.entry)

      -- its table may refer to the one: no text of it is a part of the key, or it is named
      referring : entry_of p.table p.key a ≡ entry_of p.table p.key b → may_refer models p.table table ≡ true → HasWant models b w p ⊎ IsNamed names p.table p.key
      referring same may =
          let at = place same in
          elim (entries p.table p.key has.at.entry.fields at.2.fields may (entry_of_place a p.table p.key has.position.table has.position.key formed has.at.entry)
          (entry_of_place b p.table p.key at.0 at.1 well at.2)) [
            | inr is ↦ inr is
            | inl together ↦
                let none : ¬ Has parts w.text = together.1 w.text (text_of_want models a has.position w p has.at has.wanted) in
                inl (same_want models a b has.position w p has.at has.wanted at.0 at.1 at.2 (sym at.3)
                (satisfies one parts holds models a b w.text (keys_but a b table key one agree formed named) none)
                (satisfies one parts holds models b a w.text (keys_but b a table key one (turned a b table key agree) well named) none))
          ]

      -- it may not: what it wants is of other tables, which are the same
      unreferring : entry_of p.table p.key a ≡ entry_of p.table p.key b → may_refer models p.table table ≡ false → HasWant models b w p
      unreferring same apart =
          let at = place same in
          let row = has.wanted.row in
          let shape = has.wanted.shape in
          let field = has.position.field in
          let item = has.position.item in
          let of_row : may_refer models row.table table ≡ false =
          subst (λ t. may_refer models t table ≡ false) (sym (ap (λ (r : Row). r.table) (row_of_want models a has.position w p has.at has.wanted))) apart in
          carried_want models a b has.position w p has.at has.wanted at.0 at.1 at.2 (sym at.3)
          (wanted_elsewhere models table a b (typed_text shape row field item) w (refers_nowhere models table row shape of_row has.wanted.shaped field item)
          (elsewhere models a b table key w.text agree) (elsewhere models b a table key w.text (turned a b table key agree)) has.wanted.wanted)

  sides_turned : (a b : Config) → HaveReferring models table parts a b names → HaveReferring models table parts b a names
  sides_turned a b entries t k x y may two first = elim (entries t k y x may first two) [
    | inl together ↦ inl (sym together.0, subst (HasNoneOf parts k) together.0 together.1)
    | inr is ↦ inr is
  ]

  pub referring_differ : (a b : Config) → AgreeBut a b table key → IsConfig a → IsConfig b → HaveReferring models table parts a b names → AreDifferences models a b names
  referring_differ a b agree formed well entries = record {
    of_first = referring_others a b agree formed well entries;
    of_second = referring_others b a (turned a b table key agree) well formed (sides_turned a b entries);
  }
