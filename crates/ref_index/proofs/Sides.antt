-- Tables and configurations side by side, one entry after another.
use Rattle.std.proofs.Common.{◌≡◌, ◌⊎◌, inl, inr, ◌<◌, ◌≤◌, ◌+◌, ℕ, List, [], ◌∷◌, ◌++◌, Option, Some, None, length, map, slice_get, true, refl, sym, ap, ◌∙◌, subst, arith}
use Rattle.std.specs.List.{Contains}
use Rattle.std.specs.Option.{option_map_or}
use Rattle.std.proofs.lemmas.Bool.{cases_lt}
use Rattle.conf_doc.specs.Pairs.{find}
use Rattle.conf_doc.specs.WellFormed.{IsTable}
use Rattle.conf_doc.specs.declared.configuration.Config.{Config}
use Rattle.conf_doc.specs.declared.configuration.Entry.{Entry}
use Rattle.conf_doc.specs.declared.configuration.Table.{Table}
use Rattle.conf_doc.proofs.Edits.{same_Some}
use Rattle.key_split.specs.Key.{key_parts}
use Rattle.yang_model.specs.ModelSets.{ModelSet}
use Rattle.ref_index.specs.EntryNames.{AddsChanged, AddsChangedOf, AddsLone, AddsLoneOf, AddsReferring, AddsReferringOf, AreTogether, HasEntry, HasKey, HoldsParts, IsNamed, StayNamed, entries_of}
use Rattle.ref_index.specs.Referring.{may_refer}
use Rattle.ref_index.specs.Texts.{Has}
use Rattle.ref_index.specs.declared.entry_names.EntryName.{EntryName}
use Rattle.ref_index.specs.declared.text_sets.TextSet.{TextSet}
use Rattle.ref_index.proofs.NamedEntries.{finds_part, found_at, item_at, key_of_entry, length-map, name_added, name_at, name_stays, pair_at, there_at, within}

-- ---- what is so at an index

-- the key at an index of a table is in another one, or it is named
abbrev pub LoneOf : List ℕ → Table → Table → List EntryName → ℕ → Type 0
LoneOf t left right names j = (k : List ℕ) → slice_get (map (λ e. e.0) left) j ≡ Some k → HasKey right k ⊎ IsNamed names t k

-- so do the keys of the table at an index
abbrev pub LoneAt : Config → Config → List EntryName → ℕ → Type 0
LoneAt first second names j =
    (t : List ℕ) (left : Table) → slice_get first j ≡ Some (t, left) → (k : List ℕ) → HasKey left k → HasKey (entries_of second t) k ⊎ IsNamed names t k

-- the entry at an index of a table and that of its key in another one are together, or they are named
abbrev pub ChangedOf : TextSet → List ℕ → Table → Table → List EntryName → ℕ → Type 0
ChangedOf parts t left right names j =
    (k : List ℕ) (a b : Entry) → slice_get left j ≡ Some (k, a) → HasEntry right k b → AreTogether parts k a b ⊎ IsNamed names t k

-- so are the entries of the table at an index
abbrev pub ChangedAt : TextSet → Config → Config → List EntryName → ℕ → Type 0
ChangedAt parts first second names j =
    (t : List ℕ) (left : Table) → slice_get first j ≡ Some (t, left) → (k : List ℕ) (a b : Entry) → HasEntry left k a
    → HasEntry (entries_of second t) k b → AreTogether parts k a b ⊎ IsNamed names t k

-- so they are where the table may refer to another one
abbrev pub ReferringAt : ModelSet → List ℕ → TextSet → Config → Config → List EntryName → ℕ → Type 0
ReferringAt models to parts first second names j =
    (t : List ℕ) (left : Table) → slice_get first j ≡ Some (t, left) → may_refer models t to ≡ true → (k : List ℕ) (a b : Entry) → HasEntry left k a
    → HasEntry (entries_of second t) k b → AreTogether parts k a b ⊎ IsNamed names t k

-- the set has the parts of the key of the entry at an index
abbrev pub HoldsAt : List EntryName → TextSet → ℕ → Type 0
HoldsAt names set j = (name : EntryName) → slice_get names j ≡ Some name → (s : List ℕ) → Contains (key_parts name.key.now) s → Has set s

-- ---- one more

-- what is so before an index, and at it, is so before the next one
one_more : (P Q : ℕ → Type 0) (n : ℕ) → ((j : ℕ) → P j → Q j) → ((j : ℕ) → j < n → P j) → Q n → (j : ℕ) → j < n + 1 → Q j
one_more P Q n stays before here j lt = elim (cases_lt j n) [
  | inl less ↦ stays j (before j less)
  | inr more ↦ let same : n ≡ j = omega arith in subst Q same here
]

named_or : (P : Type 0) (t k : List ℕ) (old new : List EntryName) → StayNamed old new → P ⊎ IsNamed old t k → P ⊎ IsNamed new t k
named_or P t k old new stay (inl p) = inl p
named_or P t k old new stay (inr named) = inr (stay t k named)

module _ (old new : List EntryName) (n : ℕ) (stay : StayNamed old new) where
  pub lone_of : (t : List ℕ) (left right : Table) → ((j : ℕ) → j < n → LoneOf t left right old j) → LoneOf t left right new n
      → (j : ℕ) → j < n + 1 → LoneOf t left right new j
  lone_of t left right = one_more (LoneOf t left right old) (LoneOf t left right new) n (λ j was k at. named_or (HasKey right k) t k old new stay (was k at))

  pub lone_at : (a b : Config) → ((j : ℕ) → j < n → LoneAt a b old j) → LoneAt a b new n → (j : ℕ) → j < n + 1 → LoneAt a b new j
  lone_at a b = one_more (LoneAt a b old) (LoneAt a b new) n (λ j was t left at k has. named_or (HasKey (entries_of b t) k) t k old new stay (was t left at k has))

  pub changed_of : (parts : TextSet) (t : List ℕ) (left right : Table) → ((j : ℕ) → j < n → ChangedOf parts t left right old j) → ChangedOf parts t left right new n
      → (j : ℕ) → j < n + 1 → ChangedOf parts t left right new j
  changed_of parts t left right =
      one_more (ChangedOf parts t left right old) (ChangedOf parts t left right new) n (λ j was k a b at has. named_or (AreTogether parts k a b) t k old new stay (was k a b at has))

  pub changed_at : (parts : TextSet) (a b : Config) → ((j : ℕ) → j < n → ChangedAt parts a b old j) → ChangedAt parts a b new n
      → (j : ℕ) → j < n + 1 → ChangedAt parts a b new j
  changed_at parts a b =
      one_more (ChangedAt parts a b old) (ChangedAt parts a b new) n (λ j was t left at k x y one two. named_or (AreTogether parts k x y) t k old new stay (was t left at k x y one two))

  pub referring_at : (models : ModelSet) (to : List ℕ) (parts : TextSet) (a b : Config) → ((j : ℕ) → j < n → ReferringAt models to parts a b old j)
      → ReferringAt models to parts a b new n → (j : ℕ) → j < n + 1 → ReferringAt models to parts a b new j
  referring_at models to parts a b =
      one_more (ReferringAt models to parts a b old) (ReferringAt models to parts a b new) n
      (λ j was t left at may k x y one two. named_or (AreTogether parts k x y) t k old new stay (was t left at may k x y one two))

pub holds_more : (names : List EntryName) (old new : TextSet) (n : ℕ) → ((s : List ℕ) → Has old s → Has new s)
    → ((j : ℕ) → j < n → HoldsAt names old j) → HoldsAt names new n → (j : ℕ) → j < n + 1 → HoldsAt names new j
holds_more names old new n kept = one_more (HoldsAt names old) (HoldsAt names new) n (λ j was name at s part. kept s (was name at s part))

-- ---- the table of an index

-- the table at an index is that of its name and its entries
same_table : (c : Config) (i : ℕ) (name t : List ℕ) (table left : Table) → slice_get (map (λ p. p.0) c) i ≡ Some name → slice_get (map (λ p. p.1) c) i ≡ Some table
    → slice_get c i ≡ Some (t, left) → ◌≡◌ {A = List ℕ × Table} (name, table) (t, left)
same_table c i name t table left n at there = same_Some (name, table) (t, left) (sym (pair_at c i name table n at) ∙ there)

pub lone_of_table : (a b : Config) (i : ℕ) (name : List ℕ) (left right : Table) (old new : List EntryName) → slice_get (map (λ p. p.0) a) i ≡ Some name
    → slice_get (map (λ p. p.1) a) i ≡ Some left → right ≡ entries_of b name → AddsLoneOf name left right old new → LoneAt a b new i
lone_of_table a b i name left right old new n at is adds t table there k has =
    let same : ◌≡◌ {A = List ℕ × Table} (name, left) (t, table) = same_table a i name t left table n at there in
    subst (λ (p : List ℕ × Table). HasKey (entries_of b p.0) k ⊎ IsNamed new p.0 k) same
    (subst (λ es. HasKey es k ⊎ IsNamed new name k) is (adds.all k (subst (λ (p : List ℕ × Table). HasKey p.1 k) (sym same) has)))

pub changed_of_table : (parts : TextSet) (a b : Config) (i : ℕ) (name : List ℕ) (left right : Table) (old new : List EntryName) → slice_get (map (λ p. p.0) a) i ≡ Some name
    → slice_get (map (λ p. p.1) a) i ≡ Some left → right ≡ entries_of b name → AddsChangedOf parts name left right old new → ChangedAt parts a b new i
changed_of_table parts a b i name left right old new n at is adds t table there k x y one two =
    let same : ◌≡◌ {A = List ℕ × Table} (name, left) (t, table) = same_table a i name t left table n at there in
    subst (λ (p : List ℕ × Table). AreTogether parts k x y ⊎ IsNamed new p.0 k) same
    (adds.all k x y (subst (λ (p : List ℕ × Table). HasEntry p.1 k x) (sym same) one)
    (subst (λ es. HasEntry es k y) (sym is) (subst (λ (p : List ℕ × Table). HasEntry (entries_of b p.0) k y) (sym same) two)))

pub referring_of_table : (models : ModelSet) (to : List ℕ) (parts : TextSet) (a b : Config) (i : ℕ) (name : List ℕ) (left right : Table) (old new : List EntryName)
    → slice_get (map (λ p. p.0) a) i ≡ Some name → slice_get (map (λ p. p.1) a) i ≡ Some left → right ≡ entries_of b name
    → AddsReferringOf models to parts name left right old new → ReferringAt models to parts a b new i
referring_of_table models to parts a b i name left right old new n at is adds t table there may =
    let same : ◌≡◌ {A = List ℕ × Table} (name, left) (t, table) = same_table a i name t left table n at there in
    changed_of_table parts a b i name left right old new n at is
    (adds.all (subst (λ (p : List ℕ × Table). may_refer models p.0 to ≡ true) (sym same) may)) t table there

-- ---- all of them

pub adds_lone_of : (t : List ℕ) (left right : Table) (old new : List EntryName) (n : ℕ) → length left ≤ n → StayNamed old new
    → ((j : ℕ) → j < n → LoneOf t left right new j) → AddsLoneOf t left right old new
adds_lone_of t left right old new n long stay all = record {
  stay = stay;
  all = λ k has.
      let lt = has.1 in
      let made = length-map (λ e. e.0) left in
      all has.0 (omega (arith, lt, made, long)) k (there_at (map (λ e. e.0) left) has.0 k has.1 (sym has.2));
}

pub adds_changed_of : (parts : TextSet) (t : List ℕ) (left right : Table) (old new : List EntryName) (n : ℕ) → length left ≤ n → StayNamed old new
    → ((j : ℕ) → j < n → ChangedOf parts t left right new j) → AddsChangedOf parts t left right old new
adds_changed_of parts t left right old new n long stay all = record {
  stay = stay;
  all = λ k a b one two.
      let lt = within left one.index (k, a) one.at in
      all one.index (omega (arith, lt, long)) k a b one.at two;
}

module _ (c : Config) (t : List ℕ) where
  -- what the table of a name has is in a table at an index
  at_index : (n : ℕ) → length c ≤ n → (P : Table → Type 0) → (P [] → ⊥) → P (entries_of c t) → (i : ℕ) × (left : Table) × (i < n) × (slice_get c i ≡ Some (t, left)) × P left
  at_index n long P none has = by (find t c) refl has
    where
      by : (o : Option Table) → find t c ≡ o → P (option_map_or (λ es. es) o []) → (i : ℕ) × (left : Table) × (i < n) × (slice_get c i ≡ Some (t, left)) × P left
      by None e h = absurd (none h)
      by (Some left) e h =
          let place = found_at c t left e in
          let lt = within c place.0 (t, left) place.1 in
          (place.0, left, omega (arith, lt, long), place.1, h)

pub adds_lone : (a b : Config) (old new : List EntryName) (n : ℕ) → length a ≤ n → StayNamed old new → ((j : ℕ) → j < n → LoneAt a b new j) → AddsLone a b old new
adds_lone a b old new n long stay all = record {
  stay = stay;
  all = λ t k has.
      let at = at_index a t n long (λ table. HasKey table k) (λ h. let lt = h.1 in omega (arith, lt)) has in
      all at.0 at.2 t at.1 at.3 k at.4;
}

pub adds_changed : (parts : TextSet) (a b : Config) (old new : List EntryName) (n : ℕ) → length a ≤ n → StayNamed old new → ((j : ℕ) → j < n → ChangedAt parts a b new j)
    → AddsChanged parts a b old new
adds_changed parts a b old new n long stay all = record {
  stay = stay;
  all = λ t k x y one two.
      let at = at_index a t n long (λ table. HasEntry table k x) (λ h. let is = h.at in cc) one in
      all at.0 at.2 t at.1 at.3 k x y at.4 two;
}

pub holds_parts : (names : List EntryName) (set : TextSet) (n : ℕ) → length names ≤ n → ((j : ℕ) → j < n → HoldsAt names set j) → HoldsParts names set
holds_parts names set n long all t k s named part =
    let lt = named.there.1 in
    all named.there.0 (omega (arith, lt, long)) named.name (there_at names named.there.0 named.name named.there.1 (sym named.there.2)) s
    (subst (λ j. Contains (key_parts j) s) (sym named.key) part)

-- ---- the entry at an index

module _ (begun old : List EntryName) (stay : StayNamed begun old) (t : List ℕ) (left right : Table) (n : ℕ) (key : List ℕ) (here : slice_get (map (λ e. e.0) left) n ≡ Some key) where
  abbrev LoneBefore : List EntryName → ℕ → Type 0
  LoneBefore names m = StayNamed begun names × ((j : ℕ) → j < m → LoneOf t left right names j)

  -- the key is in the other table
  pub lone_kept : (i : ℕ) → slice_get (map (λ e. e.0) right) i ≡ Some key → ((j : ℕ) → j < n → LoneOf t left right old j) → LoneBefore old (n + 1)
  lone_kept i there before = (
    stay,
    lone_of old old n (λ u k named. named) t left right before
        (λ k at. inl (subst (HasKey right) (same_Some key k (sym here ∙ at)) (item_at (map (λ e. e.0) right) i key there))),
  )

  -- the entry is named
  pub lone_pushed : (new : List EntryName) (name : EntryName) → new ≡ old ++ name ∷ [] → name.table.now ≡ t → name.key.now ≡ key
      → ((j : ℕ) → j < n → LoneOf t left right old j) → LoneBefore new (n + 1)
  lone_pushed new name is table is_key before =
      let more : StayNamed old new = subst (StayNamed old) (sym is) (name_stays old name) in (
        λ u k named. more u k (stay u k named),
        lone_of old new n more t left right before
            (λ k at. inr (subst (λ names. IsNamed names t k) (sym is) (name_added old name t k table (is_key ∙ same_Some key k (sym here ∙ at))))),
      )

  module _ (parts : TextSet) (before : (j : ℕ) → j < n → ChangedOf parts t left right old j) where
    abbrev ChangedBefore : List EntryName → ℕ → Type 0
    ChangedBefore names m = StayNamed begun names × ((j : ℕ) → j < m → ChangedOf parts t left right names j)

    same_key : (k : List ℕ) (a : Entry) → slice_get left n ≡ Some (k, a) → key ≡ k
    same_key k a at = same_Some key k (sym here ∙ name_at left n (k, a) at)

    -- the other table hasn't the key
    pub changed_absent : ¬ HasKey right key → ChangedBefore old (n + 1)
    changed_absent none = (
      stay,
      changed_of old old n (λ u k named. named) parts t left right before
          (λ k a b at has. absurd (none (subst (HasKey right) (sym (same_key k a at)) (key_of_entry right k b has)))),
    )

    -- the entries of both are together
    pub changed_kept : (i : ℕ) (x y : Entry) → IsTable right → slice_get (map (λ e. e.1) left) n ≡ Some x → slice_get (map (λ e. e.0) right) i ≡ Some key
        → slice_get (map (λ e. e.1) right) i ≡ Some y → AreTogether parts key x y → ChangedBefore old (n + 1)
    changed_kept i x y formed first there second together = (
      stay,
      changed_of old old n (λ u k named. named) parts t left right before
          (λ k a b at has.
          let one : (key, x) ≡ (k, a) = same_Some (key, x) (k, a) (sym (pair_at left n key x here first) ∙ at) in
          let found : find key right ≡ Some y = finds_part right i (key, y) formed.shaped.rising (pair_at right i key y there second) in
          let other : find k right ≡ Some b = finds_part right has.index (k, b) formed.shaped.rising has.at in
          let two : y ≡ b = same_Some y b (sym found ∙ ap (λ m. find m right) (same_key k a at) ∙ other) in
          inl (subst (λ z. AreTogether parts k a z) two (subst (λ (p : List ℕ × Entry). AreTogether parts p.0 p.1 y) one together))),
    )

    -- the entry is named
    pub changed_pushed : (new : List EntryName) (name : EntryName) → new ≡ old ++ name ∷ [] → name.table.now ≡ t → name.key.now ≡ key → ChangedBefore new (n + 1)
    changed_pushed new name is table is_key =
        let more : StayNamed old new = subst (StayNamed old) (sym is) (name_stays old name) in (
          λ u k named. more u k (stay u k named),
          changed_of old new n more parts t left right before
              (λ k a b at has. inr (subst (λ names. IsNamed names t k) (sym is) (name_added old name t k table (is_key ∙ same_key k a at)))),
        )

pub adds_referring : (models : ModelSet) (to : List ℕ) (parts : TextSet) (a b : Config) (old new : List EntryName) (n : ℕ) → length a ≤ n → StayNamed old new
    → ((j : ℕ) → j < n → ReferringAt models to parts a b new j) → AddsReferring models to parts a b old new
adds_referring models to parts a b old new n long stay all = record {
  stay = stay;
  all = λ t k x y may one two.
      let at = at_index a t n long (λ table. HasEntry table k x) (λ h. let is = h.at in cc) one in
      all at.0 at.2 t at.1 at.3 may k x y at.4 two;
}
