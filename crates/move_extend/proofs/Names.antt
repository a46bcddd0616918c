-- The names of the place of a want.
use Rattle.std.proofs.Common.{◌≡◌, ◌<◌, ℕ, List, [], ◌∷◌, length, Option, Some, None, option_map, option_and_then, slice_get, refl, ap, ◌∙◌, subst, arith}
use Rattle.std.specs.Option.{option_to_list}
use Rattle.conf_doc.specs.Paths.{HaveLetters, IsPath}
use Rattle.conf_doc.specs.WellFormed.{IsConfig, IsEntry, IsTable}
use Rattle.conf_doc.specs.declared.configuration.Config.{Config}
use Rattle.conf_doc.specs.declared.configuration.Entry.{Entry}
use Rattle.conf_doc.specs.declared.configuration.Table.{Table}
use Rattle.conf_doc.proofs.Edits.{same_Some}
use Rattle.conf_check.specs.Wants.{IsNamed, field_name}
use Rattle.conf_check.specs.declared.want_iter.WantAt.{WantAt}
use Rattle.conf_check.specs.declared.want_iter.WantPlace.{WantPlace}
use Rattle.move_core.specs.Contexts.{field_names, names_of}
use Rattle.move_core.specs.Moves.{Place}
use Rattle.move_extend.specs.Referrers.{place_of}
use Rattle.move_extend.proofs.NonemptyNames.{name_at, part_at}

-- ---- from positions to names

abbrev pub entry_names : Option ℕ → List ℕ → List ℕ × Entry → Option Place
entry_names f t e = option_map (λ n. t ∷ e.0 ∷ n) (field_names e.1 f)

abbrev pub table_names : ℕ → Option ℕ → List ℕ × Table → Option Place
table_names k f t = option_and_then (entry_names f t.0) (slice_get t.1 k)

fields_named : (fields : Entry) (f : Option ℕ) (o : Option (List ℕ)) → field_name fields f ≡ Some o → field_names fields f ≡ Some (option_to_list o)
fields_named fields None o is = ap (λ n. Some (option_to_list n)) (same_Some None o is)
fields_named fields (Some i) o is = by (slice_get fields i) is
  where
    by : {A : Type 0} (p : Option (List ℕ × A)) → option_map (λ q. Some q.0) p ≡ Some o → option_map (λ q. q.0 ∷ []) p ≡ Some (option_to_list o)
    by None e = cc
    by (Some q) e = ap (λ n. Some (option_to_list n)) (same_Some (Some q.0) o e)

pub names_named : (c : Config) (p : WantPlace) (a : WantAt) → IsNamed c p a → names_of c p ≡ Some (place_of a)
names_named c p a named =
    ap (option_and_then (table_names p.key p.field)) named.entry.at
    ∙ ap (option_and_then (entry_names p.field a.table.now)) named.entry.at_key
    ∙ ap (option_map (λ n. a.table.now ∷ a.key.now ∷ n)) (fields_named named.entry.fields p.field (option_map (λ f. f.now) a.field) named.field)

-- ---- none of them is empty

field_letters : (fields : Entry) (f : Option ℕ) (o : Option (List ℕ)) → IsEntry fields → field_name fields f ≡ Some o → HaveLetters (option_to_list o)
field_letters fields None o well is = subst (λ n. HaveLetters (option_to_list n)) (same_Some None o is) tt
field_letters fields (Some i) o well is = by (slice_get fields i) refl is
  where
    by : (p : Option _) → slice_get fields i ≡ p → option_map (λ q. Some q.0) p ≡ Some o → HaveLetters (option_to_list o)
    by None at e = cc
    by (Some q) at e = subst (λ n. HaveLetters (option_to_list n)) (same_Some (Some q.0) o e) (name_at fields i q well.shaped.named at, tt)

few : (t k : List ℕ) (o : Option (List ℕ)) → 0 < length t → 0 < length k → HaveLetters (option_to_list o) → IsPath (t ∷ k ∷ option_to_list o)
few t k None table key field = record { some = omega arith; few = omega arith; named = (table, (key, tt)) }
few t k (Some f) table key field = record { some = omega arith; few = omega arith; named = (table, (key, field)) }

pub names_are_path : (c : Config) (p : WantPlace) (a : WantAt) → IsConfig c → IsNamed c p a → IsPath (place_of a)
names_are_path c p a well named =
    let entries : IsTable named.entry.entries = part_at IsTable c p.table _ well.parts named.entry.at in
    let fields : IsEntry named.entry.fields = part_at IsEntry named.entry.entries p.key _ entries.parts named.entry.at_key in
    few a.table.now a.key.now (option_map (λ f. f.now) a.field) (name_at c p.table _ well.shaped.named named.entry.at)
    (name_at named.entry.entries p.key _ entries.shaped.named named.entry.at_key)
    (field_letters named.entry.fields p.field (option_map (λ f. f.now) a.field) fields named.field)
