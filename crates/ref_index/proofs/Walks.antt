-- The wants of a configuration, one after another.
use Rattle.std.proofs.Common.{◌≡◌, ◌⊎◌, Bool, true, false, inl, inr, ℕ, List, [], ◌∷◌, ◌++◌, Option, slice_get, sym, ap, ◌∙◌, arith}
use Rattle.std.proofs.lemmas.List.Elements.{Contains-append_left, Contains-push_cases}
use Rattle.conf_doc.specs.declared.configuration.Config.{Config}
use Rattle.conf_doc.proofs.Edits.{same_Some}
use Rattle.conf_check.specs.Rows.{IsEntryAt}
use Rattle.conf_check.specs.Wants.{Want, IsNamed, field_name, want_of}
use Rattle.conf_check.specs.declared.want_iter.WantAt.{WantAt}
use Rattle.conf_check.specs.declared.want_iter.WantPlace.{WantPlace}
use Rattle.ref_index.specs.PlaceMaps.{IsListed}
use Rattle.ref_index.specs.Referrers.{IsPlaceAt, place_of}
use Rattle.ref_index.specs.declared.places.Place.{Place}

abbrev made_of : List ℕ → List ℕ → Option (List ℕ) → ℕ → Place
made_of table key field item = record { table = table; key = key; field = field; item = item }

-- one place stands at a position
pub name_is : (config : Config) (position : WantPlace) (a : WantAt) (q : Place) → IsNamed config position a → IsPlaceAt config position q → q ≡ place_of a
name_is config position a q named at =
    let table : (q.table, at.entry.entries) ≡ (a.table.now, named.entry.entries) =
    same_Some (q.table, at.entry.entries) (a.table.now, named.entry.entries) (sym at.entry.at ∙ named.entry.at) in
    let key : (q.key, at.entry.fields) ≡ (a.key.now, named.entry.fields) =
    same_Some (q.key, at.entry.fields) (a.key.now, named.entry.fields)
    (sym at.entry.at_key ∙ ap (λ t. slice_get (t.1) position.key) table ∙ named.entry.at_key) in
    let field : q.field ≡ (place_of a).field =
    same_Some q.field (place_of a).field (sym at.field ∙ ap (λ e. field_name e.1 position.field) key ∙ named.field) in
    ap (λ x. made_of x q.key q.field q.item) (ap (λ t. t.0) table) ∙ ap (λ x. made_of a.table.now x q.field q.item) (ap (λ e. e.0) key)
    ∙ ap (λ x. made_of a.table.now a.key.now x q.item) field
    ∙ ap (λ x. made_of a.table.now a.key.now (place_of a).field x) (at.item ∙ sym named.item)

-- the place of a want as it is handed out stands there
pub named_at : (config : Config) (position : WantPlace) (a : WantAt) → IsNamed config position a → IsPlaceAt config position (place_of a)
named_at config position a named = record { entry = named.entry; field = named.field; item = named.item }

-- a test that fails says that it isn't so
pub not_so : {P : Type 0} (b : Bool) → b ≡ false → (b ≡ true → P) × (P → b ≡ true) → ¬ P
not_so b fails says h = let passes : b ≡ true = says.1 h in cc

-- the entry at some positions has one table and one key
pub same_names : (config : Config) (t k u j : List ℕ) (i n : ℕ) → IsEntryAt config t k i n → IsEntryAt config u j i n → (t ≡ u) × (k ≡ j)
same_names config t k u j i n a b =
    let table : (t, a.entries) ≡ (u, b.entries) = same_Some (t, a.entries) (u, b.entries) (sym a.at ∙ b.at) in
    let key : (k, a.fields) ≡ (j, b.fields) = same_Some (k, a.fields) (j, b.fields) (sym a.at_key ∙ ap (λ x. slice_get (x.1) n) table ∙ b.at_key) in
    (ap (λ x. x.0) table, ap (λ x. x.0) key)

-- ---- which wants are listed

pub listed_before : (found : List WantAt) (a : WantAt) (w : Want) (p : Place) → IsListed found w p → IsListed (found ++ a ∷ []) w p
listed_before found a w p l = record { at = l.at; there = Contains-append_left found (a ∷ []) l.at l.there; wants = l.wants; stands = l.stands }

pub listed_cases : (found : List WantAt) (a : WantAt) (w : Want) (p : Place) → IsListed (found ++ a ∷ []) w p
    → IsListed found w p ⊎ ((w ≡ want_of a.want) × (p ≡ place_of a))
listed_cases found a w p l = elim (Contains-push_cases found a l.at l.there) [
  | inl before ↦ inl (record { at = l.at; there = before; wants = l.wants; stands = l.stands })
  | inr is ↦ inr (l.wants ∙ ap (λ b. want_of b.want) (sym is), l.stands ∙ ap place_of (sym is))
]

pub none_listed : (w : Want) (p : Place) → ¬ IsListed [] w p
none_listed w p l = let lt = l.there.1 in absurd (omega arith)
