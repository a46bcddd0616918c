-- Entries of which the wants may differ.
use Rattle.std.proofs.Common.{◌⊎◌, inl, inr, ℕ, List, [], sym, ◌∙◌, subst}
use Rattle.std.specs.List.{Contains}
use Rattle.conf_doc.specs.WellFormed.{IsConfig}
use Rattle.conf_doc.specs.declared.configuration.Config.{Config}
use Rattle.conf_doc.specs.declared.configuration.Entry.{Entry}
use Rattle.key_split.specs.Key.{key_parts}
use Rattle.yang_model.specs.ModelSets.{ModelSet}
use Rattle.ref_index.specs.EntryNames.{AddsChanged, AddsLone, AreDifferences, AreTogether, HasEntry, HasKey, HasOthers, HoldsParts, IsNamed, StayNamed, entries_of}
use Rattle.ref_index.specs.Texts.{Has, HasNoneOf}
use Rattle.ref_index.specs.declared.entry_names.EntryName.{EntryName}
use Rattle.ref_index.specs.declared.text_sets.TextSet.{TextSet}
use Rattle.ref_index.proofs.NamedEntries.{entry_of_key, entry_of_place, item_at, key_of_entry, place_of_entry, same_keys}
use Rattle.ref_index.proofs.SameEntries.{Satisfies, same_want, text_of_want}

-- the keys that the second configuration hasn't are named
abbrev pub HasKeys : Config → Config → List EntryName → Type 0
HasKeys a b names = (t k : List ℕ) → HasKey (entries_of a t) k → HasKey (entries_of b t) k ⊎ IsNamed names t k

-- entries that both have are together, or they are named
abbrev HasEntries : TextSet → Config → Config → List EntryName → Type 0
HasEntries parts a b names =
    (t k : List ℕ) (x y : Entry) → HasEntry (entries_of a t) k x → HasEntry (entries_of b t) k y → AreTogether parts k x y ⊎ IsNamed names t k

module _ (lone : List EntryName) (parts : TextSet) (holds : HoldsParts lone parts) where
  -- a text that is no part of a key that one of them has alone can want the same in both
  pub satisfies : (models : ModelSet) (a b : Config) (s : List ℕ) → HasKeys a b lone → ¬ Has parts s → Satisfies models s a b
  satisfies models a b s keys none r is =
      let there : HasKey (entries_of a r.table) is.key = subst (λ ks. Contains ks is.key) (same_keys a r.table) is.there in
      elim (keys r.table is.key there) [
        | inl kept ↦ record {
          key = is.key;
          there = subst (λ ks. Contains ks is.key) (sym (same_keys b r.table)) kept;
          belongs = is.belongs;
          part = is.part;
        }
        | inr named ↦ absurd (none (holds r.table is.key s named (item_at (key_parts is.key) r.part s is.part)))
      ]

  has_others : (models : ModelSet) (a b : Config) (names : List EntryName) → IsConfig a → HasKeys a b lone → HasKeys b a lone → StayNamed lone names
      → HasEntries parts a b names → HasOthers models a b names
  has_others models a b names formed keys back stay entries w p has =
      let here : HasEntry (entries_of a p.table) p.key has.at.entry.fields = entry_of_place a p.table p.key has.position.table has.position.key formed has.at.entry in
      elim (keys p.table p.key (key_of_entry (entries_of a p.table) p.key has.at.entry.fields here)) [
        | inr named ↦ inr (stay p.table p.key named)
        | inl kept ↦
            let other = entry_of_key (entries_of b p.table) p.key kept in
            elim (entries p.table p.key has.at.entry.fields other.0 here other.1) [
              | inr named ↦ inr named
              | inl together ↦
                  let place = place_of_entry b p.table p.key other.0 other.1 in
                  let none : ¬ Has parts w.text = together.1 w.text (text_of_want models a has.position w p has.at has.wanted) in
                  inl (same_want models a b has.position w p has.at has.wanted place.0 place.1 place.2 (together.0 ∙ sym place.3)
                  (satisfies models a b w.text keys none) (satisfies models b a w.text back none))
            ]
      ]

turned : (parts : TextSet) (a b : Config) (names : List EntryName) → HasEntries parts a b names → HasEntries parts b a names
turned parts a b names entries t k x y one two = elim (entries t k y x two one) [
  | inl together ↦ inl (sym together.0, subst (HasNoneOf parts k) together.0 together.1)
  | inr named ↦ inr named
]

module _ (models : ModelSet) (a b : Config) where
  -- where the keys that one of them has alone are named, and then the entries that aren't together
  changed_differ : (lone names : List EntryName) (parts : TextSet) → IsConfig a → IsConfig b → HasKeys a b lone → HasKeys b a lone
      → HoldsParts lone parts → AddsChanged parts a b lone names → AreDifferences models a b names
  changed_differ lone names parts formed well keys back holds changed = record {
    of_first = has_others lone parts holds models a b names formed keys back changed.stay changed.all;
    of_second = has_others lone parts holds models b a names well back keys changed.stay (turned parts a b names changed.all);
  }

  -- the keys that one of them has alone, first those of the one and then those of the other
  pub all_differences : (first lone names : List EntryName) (parts : TextSet) → IsConfig a → IsConfig b → AddsLone a b [] first → AddsLone b a first lone
      → HoldsParts lone parts → AddsChanged parts a b lone names → AreDifferences models a b names
  all_differences first lone names parts formed well ab ba =
      changed_differ lone names parts formed well
      (λ t k has. elim (ab.all t k has) [ inl kept ↦ inl kept | inr named ↦ inr (ba.stay t k named) ]) ba.all
