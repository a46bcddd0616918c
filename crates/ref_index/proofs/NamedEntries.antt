-- Entries by their names, and where they stand.
use Rattle.std.proofs.Common.{◌≡◌, ◌<◌, ℕ, zero, suc, true, false, cond, List, [], ◌∷◌, ◌++◌, Option, Some, None, get_or, length, map, option_map, slice_get, is_eq, Ordering, Less, Equal, Greater, refl, sym, ap, ◌∙◌, subst, arith}
use Rattle.std.specs.List.{Contains}
use Rattle.std.specs.Option.{option_map_or}
use Rattle.std.proofs.lemmas.List.Elements.{Contains-append_left, Contains-push}
use Rattle.std.proofs.lemmas.Option.{slice_get-map}
use Rattle.host_core.specs.Names.{name_cmp}
use Rattle.conf_doc.specs.Pairs.{IsRising, find, first_from}
use Rattle.conf_doc.specs.WellFormed.{IsConfig}
use Rattle.conf_doc.specs.declared.configuration.Config.{Config}
use Rattle.conf_doc.specs.declared.configuration.Entry.{Entry}
use Rattle.conf_doc.specs.declared.configuration.Table.{Table}
use Rattle.conf_doc.proofs.Edits.{find_at, first_from_at, same_Some, same_name}
use Rattle.conf_check.specs.Acceptance.{keys_of}
use Rattle.conf_check.specs.Rows.{IsEntryAt}
use Rattle.ref_index.specs.EntryNames.{HasEntry, HasKey, IsNamed, StayNamed, entries_of}
use Rattle.ref_index.specs.declared.entry_names.EntryName.{EntryName}

-- ---- lists

pub item_at : {A : Type 0} (xs : List A) (i : ℕ) (a : A) → slice_get xs i ≡ Some a → Contains xs a
item_at [] i a e = absurd cc
item_at (x ∷ xs) zero a e = (zero, omega arith, same_Some x a e)
item_at (x ∷ xs) (suc i) a e = let rest = item_at xs i a e in (suc rest.0, omega arith, rest.2)

pub there_at : {A : Type 0} (xs : List A) (i : ℕ) (x : A) → i < length xs → x ≡ get_or xs i x → slice_get xs i ≡ Some x
there_at [] i x within is = absurd (omega arith)
there_at (y ∷ xs) zero x within is = ap Some (sym is)
there_at (y ∷ xs) (suc i) x within is = there_at xs i x (omega arith) is

-- what is there is got
pub got : {A : Type 0} (xs : List A) (i : ℕ) (x d : A) → slice_get xs i ≡ Some x → get_or xs i d ≡ x
got [] i x d at = absurd cc
got (y ∷ xs) zero x d at = same_Some y x at
got (y ∷ xs) (suc i) x d at = got xs i x d at

-- below the length some item stands
pub item_below : {A : Type 0} (xs : List A) (i : ℕ) → i < length xs → (x : A) × (slice_get xs i ≡ Some x)
item_below [] i lt = absurd (omega arith)
item_below (x ∷ xs) zero lt = (x, refl)
item_below (x ∷ xs) (suc i) lt = item_below xs i (omega arith)

-- an item stands below the length
pub within : {A : Type 0} (xs : List A) (i : ℕ) (a : A) → slice_get xs i ≡ Some a → i < length xs
within [] i a at = absurd cc
within (x ∷ xs) zero a at = omega arith
within (x ∷ xs) (suc i) a at = let rest = within xs i a at in omega (arith, rest)

pub length-map : {A B : Type 0} (f : A → B) (xs : List A) → length (map f xs) ≡ length xs
length-map f [] = refl
length-map f (x ∷ xs) = ap suc (length-map f xs)

-- ---- pairs of a name and a part

equal : (c : Ordering) → is_eq c ≡ true → c ≡ Equal
equal Less e = cc
equal Equal e = refl
equal Greater e = cc

module _ {A : Type 0} where
  pub pair_at : (ps : List (List ℕ × A)) (i : ℕ) (name : List ℕ) (a : A) → slice_get (map (λ p. p.0) ps) i ≡ Some name → slice_get (map (λ p. p.1) ps) i ≡ Some a
      → slice_get ps i ≡ Some (name, a)
  pair_at [] i name a n e = absurd (cc)
  pair_at (p ∷ ps) zero name a n e =
      ap (λ x. Some (x, p.1)) (same_Some p.0 name n) ∙ ap (λ y. Some (name, y)) (same_Some p.1 a e)
  pair_at (p ∷ ps) (suc i) name a n e = pair_at ps i name a n e

  pub name_at : (ps : List (List ℕ × A)) (i : ℕ) (p : List ℕ × A) → slice_get ps i ≡ Some p → slice_get (map (λ q. q.0) ps) i ≡ Some p.0
  name_at ps i p at = slice_get-map (λ q. q.0) ps i ∙ ap (option_map (λ q. q.0)) at

  part_at : (ps : List (List ℕ × A)) (i : ℕ) (p : List ℕ × A) → slice_get ps i ≡ Some p → slice_get (map (λ q. q.1) ps) i ≡ Some p.1
  part_at ps i p at = slice_get-map (λ q. q.1) ps i ∙ ap (option_map (λ q. q.1)) at

  -- a name finds the part that it stands beside
  pub finds_part : (ps : List (List ℕ × A)) (i : ℕ) (p : List ℕ × A) → IsRising ps → slice_get ps i ≡ Some p → find p.0 ps ≡ Some p.1
  finds_part ps i p rising at = find_at ps p.0 i rising (name_at ps i p at) ∙ part_at ps i p at

  -- what is found has an index
  pub found_at : (ps : List (List ℕ × A)) (name : List ℕ) (a : A) → find name ps ≡ Some a → (i : ℕ) × (slice_get ps i ≡ Some (name, a))
  found_at [] name a e = absurd cc
  found_at (p ∷ ps) name a e =
      elim (is_eq (name_cmp name p.0)) as (λ b. is_eq (name_cmp name p.0) ≡ b → cond b (Some p.1) (find name ps) ≡ Some a → (i : ℕ) × (slice_get (p ∷ ps) i ≡ Some (name, a))) [
        | true ↦ λ is here. (zero, ap (λ n. Some (n, p.1)) (sym (same_name name p.0 (equal (name_cmp name p.0) is))) ∙ ap (λ x. Some (name, x)) (same_Some p.1 a here))
        | false ↦ λ is later. let rest = found_at ps name a later in (suc rest.0, rest.1)
      ] refl e

  -- a name that isn't where it would be isn't there
  pub none_there : (ps : List (List ℕ × A)) (name : List ℕ) (i : ℕ) → IsRising ps → i ≡ first_from name ps → ¬ (slice_get (map (λ p. p.0) ps) i ≡ Some name)
      → ¬ Contains (map (λ p. p.0) ps) name
  none_there ps name i rising is not_there has =
      let at : slice_get (map (λ p. p.0) ps) has.0 ≡ Some name = there_at (map (λ p. p.0) ps) has.0 name has.1 (sym has.2) in
      let same : has.0 ≡ i = first_from_at ps name has.0 rising at ∙ sym is in
      not_there (subst (λ j. slice_get (map (λ p. p.0) ps) j ≡ Some name) same at)

-- ---- entries

keys_as : (o : Option Table) → option_map_or (map (λ e. e.0)) o [] ≡ map (λ e. e.0) (option_map_or (λ entries. entries) o [])
keys_as None = refl
keys_as (Some table) = refl

pub same_keys : (c : Config) (t : List ℕ) → keys_of t c ≡ map (λ e. e.0) (entries_of c t)
same_keys c t = keys_as (find t c)

-- the entries of the table of a name
pub entries_at : (c : Config) (i : ℕ) (t : List ℕ) (entries : Table) → IsConfig c → slice_get c i ≡ Some (t, entries) → entries_of c t ≡ entries
entries_at c i t entries formed at = ap (λ o. option_map_or (λ es. es) o []) (finds_part c i (t, entries) formed.shaped.rising at)

-- an entry at positions has its names
pub entry_of_place : (c : Config) (t k : List ℕ) (i j : ℕ) → IsConfig c → (is : IsEntryAt c t k i j) → HasEntry (entries_of c t) k is.fields
entry_of_place c t k i j formed is = record {
  index = j;
  at = ap (λ es. slice_get es j) (entries_at c i t is.entries formed is.at) ∙ is.at_key;
}

-- an entry of those names has a place
pub place_of_entry : (c : Config) (t k : List ℕ) (fields : Entry) → HasEntry (entries_of c t) k fields
    → (i j : ℕ) × (is : IsEntryAt c t k i j) × (is.fields ≡ fields)
place_of_entry c t k fields has = by (find t c) refl has
  where
    by : (o : Option Table) → find t c ≡ o → HasEntry (option_map_or (λ es. es) o []) k fields → (i j : ℕ) × (is : IsEntryAt c t k i j) × (is.fields ≡ fields)
    by None e h = let at = h.at in absurd cc
    by (Some entries) e h =
        let place = found_at c t entries e in
        (place.0, h.index, record { entries = entries; at = place.1; fields = fields; at_key = h.at }, refl)

-- an entry's key is one of its table
pub key_of_entry : (table : Table) (k : List ℕ) (fields : Entry) → HasEntry table k fields → HasKey table k
key_of_entry table k fields has = item_at (map (λ e. e.0) table) has.index k (name_at table has.index (k, fields) has.at)

-- each key has an entry
pub entry_of_key : (table : Table) (k : List ℕ) → HasKey table k → (fields : Entry) × HasEntry table k fields
entry_of_key table k has = by (slice_get table has.0) refl
  where
    at : slice_get (map (λ e. e.0) table) has.0 ≡ Some k
    at = there_at (map (λ e. e.0) table) has.0 k has.1 (sym has.2)

    by : (o : Option (List ℕ × Entry)) → slice_get table has.0 ≡ o → (fields : Entry) × HasEntry table k fields
    by None e = let none = sym at ∙ slice_get-map (λ p. p.0) table has.0 ∙ ap (option_map (λ p. p.0)) e in absurd cc
    by (Some p) e =
        let same : k ≡ p.0 = same_Some k p.0 (sym at ∙ name_at table has.0 p e) in
        (p.1, record { index = has.0; at = e ∙ ap (λ n. Some (n, p.1)) (sym same) })

-- ---- names of entries

pub name_stays : (names : List EntryName) (n : EntryName) → StayNamed names (names ++ n ∷ [])
name_stays names n t k is = record {
  name = is.name;
  there = Contains-append_left names (n ∷ []) is.name is.there;
  table = is.table;
  key = is.key;
}

pub name_added : (names : List EntryName) (n : EntryName) (t k : List ℕ) → n.table.now ≡ t → n.key.now ≡ k → IsNamed (names ++ n ∷ []) t k
name_added names n t k table key = record { name = n; there = Contains-push names n; table = table; key = key }
