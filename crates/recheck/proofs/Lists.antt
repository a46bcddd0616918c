-- Entries by their names and by their places, and lists within one another.
use Rattle.std.proofs.Common.{◌≡◌, ℕ, Bool, true, false, List, [], ◌∷◌, zero, suc, map, take, drop, Option, Some, None, option_and_then, is_some, IsTrue, slice_get, Contains, refl, sym, ap, ◌∙◌, subst}
use Rattle.std.specs.Prelude.{IsSomeAnd}
use Rattle.std.specs.List.{All, insert, items_where_true}
use Rattle.std.specs.Option.{option_map_or}
use Rattle.std.proofs.lemmas.List.Elements.{All-append, All-contains, All-cons, All-drop, All-head, All-nil, All-tail, All-take, All-weaker}
use Rattle.conf_doc.specs.Pairs.{find, IsRising}
use Rattle.conf_doc.specs.WellFormed.{Each, IsConfig, IsTable}
use Rattle.conf_doc.specs.declared.configuration.Config.{Config}
use Rattle.conf_doc.specs.declared.configuration.Entry.{Entry}
use Rattle.conf_doc.specs.declared.configuration.Table.{Table}
use Rattle.conf_check.specs.Acceptance.{keys_of}
use Rattle.conf_check.specs.Rows.{IsEntryAt}
use Rattle.ref_index.specs.Agreements.{entry_of}
use Rattle.recheck.proofs.Pairs.{at_contained, contains_at, found_at, found_there, holder_at, left_at, right_at, some_same, stands_once}

-- an item that is as said is there
pub some_at : {A : Type 0} (P : A → Type 0) (o : Option A) → IsSomeAnd o P → (x : A) × (o ≡ Some x)
some_at P None is = absurd is
some_at P (Some x) is = (x, refl)

-- each table of a configuration rises
pub table_rises : (c : Config) (t : ℕ) (entries : Table) → Each IsTable c → slice_get (map (λ p. p.1) c) t ≡ Some entries → IsRising entries
table_rises [] t entries all at = cc
table_rises (p ∷ c) zero entries all at = subst (λ (es : Table). IsRising es) (some_same p.1 entries at) all.0.shaped.rising
table_rises (p ∷ c) (suc t) entries all at = table_rises c t entries all.1 at

-- ---- entries

-- an entry at a place is found
pub entry_found : (c : Config) (table key : List ℕ) (t k : ℕ) → IsConfig c → (is : IsEntryAt c table key t k) → entry_of table key c ≡ Some is.fields
entry_found c table key t k formed is =
    let rises : IsRising is.entries = table_rises c t is.entries formed.parts (right_at c t (table, is.entries) is.at) in
    ap (λ (o : Option Table). option_and_then (find key) o) (found_at c table t is.entries formed.shaped.rising is.at)
    ∙ found_at is.entries key k is.fields rises is.at_key

-- and one that is found stands at a place
pub entry_placed : (c : Config) (table key : List ℕ) (e : Entry) → entry_of table key c ≡ Some e → (t : ℕ) × (k : ℕ) × IsEntryAt c table key t k
entry_placed c table key e found = by (find table c) refl found
  where
    by : (o : Option Table) → find table c ≡ o → option_and_then (find key) o ≡ Some e → (t : ℕ) × (k : ℕ) × IsEntryAt c table key t k
    by None is found = cc
    by (Some entries) is found =
        let at = found_there c table entries is in
        let at_key = found_there entries key e found in
        (at.0, at_key.0, record { entries = entries; at = at.1; fields = e; at_key = at_key.1 })

pub entry_there : (c : Config) (table key : List ℕ) → IsTrue (is_some (entry_of table key c)) → (t : ℕ) × (k : ℕ) × IsEntryAt c table key t k
entry_there c table key there = by (entry_of table key c) refl there
  where
    by : (o : Option Entry) → entry_of table key c ≡ o → IsTrue (is_some o) → (t : ℕ) × (k : ℕ) × IsEntryAt c table key t k
    by None is there = absurd cc
    by (Some e) is there = entry_placed c table key e is

-- a key of a table is that of an entry
pub key_placed : (c : Config) (table key : List ℕ) → Contains (keys_of table c) key → (t : ℕ) × (k : ℕ) × IsEntryAt c table key t k
key_placed c table key has = by (find table c) refl has
  where
    none : {X : Type 0} (x : X) → Contains [] x → ⊥
    none x has = at_nothing x has.0 (at_contained [] x has)
      where
        at_nothing : {X : Type 0} (x : X) (i : ℕ) → slice_get [] i ≡ Some x → ⊥
        at_nothing x i e = cc

    by : (o : Option Table) → find table c ≡ o → Contains (option_map_or (map (λ e. e.0)) o []) key → (t : ℕ) × (k : ℕ) × IsEntryAt c table key t k
    by None is has = absurd (none key has)
    by (Some entries) is has =
        let at = found_there c table entries is in
        let held = holder_at entries has.0 key (at_contained (map (λ e. e.0) entries) key has) in
        (at.0, has.0, record { entries = entries; at = at.1; fields = held.0; at_key = held.1 })

-- an entry that is found has its key in the table
pub found_key : (c : Config) (table key : List ℕ) (e : Entry) → entry_of table key c ≡ Some e → Contains (keys_of table c) key
found_key c table key e found = by (find table c) found
  where
    by : (o : Option Table) → option_and_then (find key) o ≡ Some e → Contains (option_map_or (map (λ e. e.0)) o []) key
    by None found = absurd cc
    by (Some entries) found = let at = found_there entries key e found in contains_at (map (λ e. e.0) entries) at.0 key (left_at entries at.0 (key, e) at.1)

module _ (c : Config) (table key : List ℕ) (formed : IsConfig c) (t k u l : ℕ) (is : IsEntryAt c table key t k) (also : IsEntryAt c table key u l) where
  same_table : t ≡ u
  same_table = stands_once c t u table formed.shaped.rising (left_at c t (table, is.entries) is.at) (left_at c u (table, also.entries) also.at)

  same_entries : is.entries ≡ also.entries
  same_entries =
      let e : Some (table, is.entries) ≡ Some (table, also.entries) = sym is.at ∙ ap (slice_get c) same_table ∙ also.at in
      let p : (table, is.entries) ≡ (table, also.entries) = some_same (table, is.entries) (table, also.entries) e in
      ap (λ (q : List ℕ × Table). q.1) p

  -- an entry stands at one place
  pub entry_once : (t ≡ u) × (k ≡ l)
  entry_once =
      let rises : IsRising is.entries = table_rises c t is.entries formed.parts (right_at c t (table, is.entries) is.at) in
      let at_l : slice_get (map (λ e. e.0) is.entries) l ≡ Some key =
      subst (λ (es : Table). slice_get (map (λ e. e.0) es) l ≡ Some key) (sym same_entries) (left_at also.entries l (key, also.fields) also.at_key) in
      (same_table, stands_once is.entries k l key rises (left_at is.entries k (key, is.fields) is.at_key) at_l)

-- ---- lists in one another

-- what holds of each item of a list holds of each of a list within it
pub among_all : {X : Type 0} (P : X → Type 0) (old new : List X) → All (Contains old) new → All P old → All P new
among_all P old new among all = All-weaker (Contains old) P (λ x has. All-contains P old x all has) new among

pub all_insert : {X : Type 0} (P : X → Type 0) (xs : List X) (i : ℕ) (x : X) → P x → All P xs → All P (insert xs i x)
all_insert P xs i x here all = All-append P (take i xs) (x ∷ drop i xs) (All-take P i xs all) (All-cons P x (drop i xs) here (All-drop P i xs all))

-- what holds of each item holds of each that stays
pub all_kept : {X : Type 0} (P : X → Type 0) (bs : List Bool) (xs ys : List X) → ys ≡ items_where_true bs xs → All P xs → All P ys
all_kept {X = X} P bs xs ys is all = subst (λ l. All P l) (sym is) (kept bs xs all)
  where
    kept : (bs : List Bool) (xs : List X) → All P xs → All P (items_where_true bs xs)
    kept [] xs all = All-nil P
    kept (b ∷ bs) [] all = All-nil P
    kept (true ∷ bs) (x ∷ xs) all = All-cons P x (items_where_true bs xs) (All-head P x xs all) (kept bs xs (All-tail P x xs all))
    kept (false ∷ bs) (x ∷ xs) all = kept bs xs (All-tail P x xs all)
