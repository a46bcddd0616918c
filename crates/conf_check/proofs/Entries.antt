-- Where the entry of a key stands.
use Rattle.std.proofs.Common.{◌≡◌, ◌<◌, ℕ, zero, suc, Bool, true, false, cond, List, [], ◌∷◌, Option, Some, None, option_map, map, length, slice_get, refl, sym, ap, ◌∙◌, subst, inl, inr, arith, Equal}
use Rattle.std.specs.Str.{bytes_eq}
use Rattle.std.proofs.lemmas.Bool.{cases_lt}
use Rattle.std.proofs.lemmas.Cmp.{nat_list_cmp_total, tied_itself}
use Rattle.std.proofs.lemmas.List.{length-map}
use Rattle.std.proofs.lemmas.Option.{slice_get_within}
use Rattle.std.proofs.lemmas.Slice.Eq.{bytes_eq-Decides}
use Rattle.conf_doc.specs.Pairs.{IsRising}
use Rattle.conf_doc.specs.WellFormed.{Each, IsTable}
use Rattle.conf_doc.specs.declared.configuration.Config.{Config}
use Rattle.conf_doc.specs.declared.configuration.Entry.{Entry}
use Rattle.conf_doc.specs.declared.configuration.Table.{Table}
use Rattle.host_core.specs.Names.{name_cmp}
use Rattle.yang_model.specs.Names.{place_of_name}
use Rattle.conf_check.specs.Rows.{IsEntryAt, IsPlaceOfEntry}
use Rattle.conf_check.proofs.Keys.{rising_at}
use Rattle.conf_check.proofs.NamePlaces.{place_holds}
use Rattle.conf_check.proofs.Places.{holder_at, left_at, pair_at}

some_same : {A : Type 0} (x y : A) → Some x ≡ Some y → x ≡ y
some_same x y e = cc

module _ {A : Type 0} (ps : List (List ℕ × A)) (rising : IsRising ps) where
  not_twice : (i j : ℕ) (name : List ℕ) → i < j → slice_get (map (λ p. p.0) ps) i ≡ Some name → slice_get (map (λ p. p.0) ps) j ≡ Some name → ⊥
  not_twice i j name lt at_i at_j =
      let less = rising_at ps i j name name rising lt at_i at_j in
      let tied : name_cmp name name ≡ Equal = tied_itself nat_list_cmp_total name in
      cc

  -- a name occurs once
  pub stands_once : (i j : ℕ) (name : List ℕ) → slice_get (map (λ p. p.0) ps) i ≡ Some name → slice_get (map (λ p. p.0) ps) j ≡ Some name → i ≡ j
  stands_once i j name at_i at_j =
      elim (cases_lt i j) [
        | inl less ↦ absurd (not_twice i j name less at_i at_j)
        | inr more ↦ elim (cases_lt j i) [ inl less ↦ absurd (not_twice j i name less at_j at_i) | inr le ↦ omega arith ]
      ]

module _ (name : List ℕ) where
  nowhere_by : (b : Bool) (n : List ℕ) (names : List (List ℕ)) (o : Option ℕ) (i : ℕ) → bytes_eq name n ≡ b → cond b (Some 0) (option_map suc o) ≡ None
      → (o ≡ None → (j : ℕ) → ¬ (slice_get names j ≡ Some name)) → ¬ (slice_get (n ∷ names) i ≡ Some name)
  nowhere_by true n names o i is e more at = cc
  nowhere_by false n names (Some j) i is e more at = cc
  nowhere_by false n names None zero is e more at =
      let same : bytes_eq name n ≡ true = (bytes_eq-Decides name n).1 (sym (some_same n name at)) in
      let f : true ≡ false = sym same ∙ is in
      cc
  nowhere_by false n names None (suc i) is e more at = more refl i at

  -- a name that has no place isn't there
  pub stands_nowhere : (names : List (List ℕ)) (i : ℕ) → place_of_name name names ≡ None → ¬ (slice_get names i ≡ Some name)
  stands_nowhere [] i e at = cc
  stands_nowhere (n ∷ names) i e at =
      nowhere_by (bytes_eq name n) n names (place_of_name name names) i refl e (λ none j. stands_nowhere names j none) at

-- each table of a configuration rises
pub table_rises : (c : Config) (t : ℕ) (entries : Table) → Each IsTable c → slice_get (map (λ p. p.1) c) t ≡ Some entries → IsRising entries
table_rises [] t entries all at = cc
table_rises (p ∷ c) zero entries all at = subst (λ (es : Table). IsRising es) (some_same p.1 entries at) all.0.shaped.rising
table_rises (p ∷ c) (suc t) entries all at = table_rises c t entries all.1 at

-- the place of a name is within the list
pub place_within : {A : Type 0} (ps : List (List ℕ × A)) (name : List ℕ) (i : ℕ) → Some i ≡ place_of_name name (map (λ p. p.0) ps) → i < length ps
place_within ps name i e =
    let names = map (λ (p : List ℕ × _). p.0) ps in
    omega (arith, slice_get_within names i name (place_holds name names i (sym e)), length-map ps (λ p. p.0))

module _ (config : Config) (table key : List ℕ) where
  -- a table of that name isn't there
  pub no_table : None ≡ place_of_name table (map (λ t. t.0) config) → IsPlaceOfEntry config table key None
  no_table none t k is = stands_nowhere table (map (λ t. t.0) config) t (sym none) (left_at config t (table, is.entries) is.at)

  module _ (rising : IsRising config) (t : ℕ) (entries : Table) (placed : Some t ≡ place_of_name table (map (λ t. t.0) config))
      (there : slice_get (map (λ t. t.1) config) t ≡ Some entries) where
    named : slice_get (map (λ t. t.0) config) t ≡ Some table
    named = place_holds table (map (λ t. t.0) config) t (sym placed)

    stands : slice_get config t ≡ Some (table, entries)
    stands = pair_at config t table entries named there

    same_table : (u k : ℕ) → IsEntryAt config table key u k → u ≡ t
    same_table u k is = stands_once config rising u t table (left_at config u (table, is.entries) is.at) named

    same_entries : (u k : ℕ) (is : IsEntryAt config table key u k) → is.entries ≡ entries
    same_entries u k is =
        let e : Some (table, is.entries) ≡ Some (table, entries) = sym is.at ∙ ap (slice_get config) (same_table u k is) ∙ stands in
        let p : (table, is.entries) ≡ (table, entries) = some_same (table, is.entries) (table, entries) e in
        ap (λ (q : List ℕ × Table). q.1) p

    key_at : (u k : ℕ) → IsEntryAt config table key u k → slice_get (map (λ e. e.0) entries) k ≡ Some key
    key_at u k is =
        subst (λ (es : Table). slice_get (map (λ e. e.0) es) k ≡ Some key) (same_entries u k is)
        (left_at is.entries k (key, is.fields) is.at_key)

    -- an entry of that key isn't there
    pub no_key : None ≡ place_of_name key (map (λ e. e.0) entries) → IsPlaceOfEntry config table key None
    no_key none u k is = stands_nowhere key (map (λ e. e.0) entries) k (sym none) (key_at u k is)

    -- it is at one place
    pub entry_placed : (k : ℕ) → IsRising entries → Some k ≡ place_of_name key (map (λ e. e.0) entries) → IsPlaceOfEntry config table key (Some (t, k))
    entry_placed k rises at u l = (
      λ is. (same_table u l is, stands_once entries rises l k key (key_at u l is) here),
      λ same.
          subst (λ n. IsEntryAt config table key n l) (sym same.0)
          (subst (λ n. IsEntryAt config table key t n) (sym same.1)
          (record { entries = entries; at = stands; fields = holder.0; at_key = holder.1 })),
    )
      where
        here : slice_get (map (λ e. e.0) entries) k ≡ Some key
        here = place_holds key (map (λ e. e.0) entries) k (sym at)

        holder : (fields : Entry) × (slice_get entries k ≡ Some (key, fields))
        holder = holder_at entries k key here
