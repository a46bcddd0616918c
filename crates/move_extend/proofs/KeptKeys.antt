-- The keys that a move keeps.
use Rattle.std.proofs.Common.{◌≡◌, ◌<◌, ℕ, suc, List, [], ◌∷◌, true, false, length, map, Option, Some, None, option_map, option_and_then, IsSome, Contains, inl, inr, refl, sym, ap, subst, slice_get, arith}
use Rattle.std.specs.Option.{option_map_or}
use Rattle.std.specs.Ordering.{eq_by_cmp}
use Rattle.host_core.specs.Names.{name_cmp}
use Rattle.conf_doc.specs.Changes.{with_part, HasPlace}
use Rattle.conf_doc.specs.Pairs.{find}
use Rattle.conf_doc.specs.declared.configuration.Config.{Config}
use Rattle.conf_doc.specs.declared.configuration.Entry.{Entry}
use Rattle.conf_doc.specs.declared.configuration.Table.{Table}
use Rattle.conf_doc.specs.declared.parts.Part.{Part}
use Rattle.conf_doc.specs.declared.parts.Part.TheVariants as part
use Rattle.conf_check.specs.Acceptance.{IsSatisfied, keys_of}
use Rattle.yang_model.specs.ModelSets.{ModelSet}
use Rattle.yang_types.specs.declared.types.Target.{Target}
use Rattle.move_core.specs.Moves.{Place, new_part, part_after, place, step}
use Rattle.move_core.specs.Services.{table_of}
use Rattle.move_core.specs.declared.moves.Move.{Move}
use Rattle.move_core.specs.declared.moves.Move.TheVariants.{Add, Remove, Replace, AddItem, RemoveItem}
use Rattle.move_extend.specs.KeptKeys.{HasKeys, KeepsAlways, KeepsKey, KeepsKeys}
use Rattle.move_extend.proofs.AtKeys.{by_key, found_key, key_found, same_entry, second_name, stands, there}
use Rattle.move_extend.proofs.UntouchedPlaces.{apart_by, other_key, own_key, same_by}

-- ---- keys and entries

entry_some : (k : List ℕ) (o : Option Table) → IsSome (option_and_then (λ table. option_map part.Entry (find k table)) o) → Contains (option_map_or (map (λ e. e.0)) o []) k
entry_some k None h = absurd cc
entry_some k (Some table) h = found_key k table (some (find k table) h)
  where
    some : (o : Option Entry) → IsSome (option_map part.Entry o) → IsSome o
    some None h = h
    some (Some e) h = refl

some_entry : (k : List ℕ) (o : Option Table) → Contains (option_map_or (map (λ e. e.0)) o []) k → IsSome (option_and_then (λ table. option_map part.Entry (find k table)) o)
some_entry k None h = absurd (omega (arith, h.1))
some_entry k (Some table) h = some (find k table) (key_found k table h)
  where
    some : (o : Option Entry) → IsSome o → IsSome (option_map part.Entry o)
    some None h = h
    some (Some e) h = refl

pub key_of_entry : (c : Config) (t k : List ℕ) → HasPlace c (t ∷ k ∷ []) → Contains (keys_of t c) k
key_of_entry c t k has = entry_some k (find t c) has

pub entry_of_key : (c : Config) (t k : List ℕ) → Contains (keys_of t c) k → HasPlace c (t ∷ k ∷ [])
entry_of_key c t k has = some_entry k (find t c) has

-- ---- keys that are kept

pub keeps_there : (cur next : Config) (t : List ℕ) (table : Table) → Some table ≡ find t cur → HasKeys next t (map (λ e. e.0) table) → KeepsKeys cur next t
keeps_there cur next t table is all k before =
    all k (subst (λ o. Contains (option_map_or (map (λ e. e.0)) o []) k) (sym is) (key_of_entry cur t k before))

pub keeps_none : (cur next : Config) (t : List ℕ) → None ≡ find t cur → KeepsKeys cur next t
keeps_none cur next t is k before =
    let none = subst (λ o. Contains (option_map_or (map (λ (e : List ℕ × Entry). e.0)) o []) k) (sym is) (key_of_entry cur t k before) in
    absurd (omega (arith, none.1))

-- the move's own key is kept, so all are
pub keeps_own : (cur next : Config) (m : Move) (t k : List ℕ) → next ≡ step cur m → t ≡ table_of (place m) → slice_get (place m) 1 ≡ Some k
    → KeepsKey cur next t k → KeepsKeys cur next t
keeps_own cur next m t k is at named keeps key before =
    elim (by_key cur next m t k is at (second_name (place m) k named) key) [
      | inl same ↦ subst IsSome (same_entry cur next t key same) before
      | inr same ↦ subst (KeepsKey cur next t) (sym same) keeps before
    ]

-- a place below a key that a move puts something at, or a field's
kept_keys : (c : Config) (p : Place) (x : Option Part) → 1 < length p → (length p ≡ 2 → IsSome x) → KeepsKeys c (with_part c p x) (table_of p)
kept_keys c [] x long some key before = absurd (omega (arith, long))
kept_keys c (t ∷ []) x long some key before = absurd (omega (arith, long))
kept_keys c (t ∷ k ∷ rest) x long some key before =
    elim (eq_by_cmp name_cmp key k) as (λ b. eq_by_cmp name_cmp key k ≡ b → HasPlace (with_part c (t ∷ k ∷ rest) x) (t ∷ key ∷ [])) [
      | true ↦ λ e.
          let same : key ≡ k = same_by key k e in
          subst (λ j. HasPlace (with_part c (t ∷ k ∷ rest) x) (t ∷ j ∷ [])) (sym same)
          (stands (with_part c (t ∷ k ∷ rest) x) t k
          (own_key c t k rest x (λ none. some (ap (λ n. suc (suc n)) none)) (there c t k (subst (λ j. HasPlace c (t ∷ j ∷ [])) same before))))
      | false ↦ λ e.
          stands (with_part c (t ∷ k ∷ rest) x) t key
          (subst IsSome (sym (other_key c t k rest x key (apart_by key k e))) (there c t key before))
    ] refl

-- what is put at a place of two names stands there afterwards
after : (m : Move) → (length (place m) ≡ 2 → IsSome (new_part m)) → (c : Config) → length (place m) ≡ 2 → IsSome (part_after c m)
after (Add p x) some c two = refl
after (Remove p) some c two = some two
after (Replace p x) some c two = refl
after (AddItem p i x) some c two = refl
after (RemoveItem p i) some c two = refl

-- a move of a field keeps the keys, and so does one that puts an entry
pub keeps_kind : (m : Move) → 1 < length (place m) → (length (place m) ≡ 2 → IsSome (new_part m)) → KeepsAlways m
keeps_kind m long some c = kept_keys c (place m) (part_after c m) long (after m some c)

-- ---- wants that stay satisfied

module _ (models : ModelSet) (cur next : Config) (target : Target) (text : List ℕ) where
  pub still_satisfied : KeepsKeys cur next target.table → IsSatisfied models cur target text → IsSatisfied models next target text
  still_satisfied keeps is = record {
    key = is.key;
    there = key_of_entry next target.table is.key (keeps is.key (entry_of_key cur target.table is.key is.there));
    belongs = is.belongs;
    part = is.part;
  }

  pub satisfied_elsewhere : find target.table next ≡ find target.table cur → IsSatisfied models cur target text → IsSatisfied models next target text
  satisfied_elsewhere same is = record {
    key = is.key;
    there = subst (λ o. Contains (option_map_or (map (λ e. e.0)) o []) is.key) (sym same) is.there;
    belongs = is.belongs;
    part = is.part;
  }
