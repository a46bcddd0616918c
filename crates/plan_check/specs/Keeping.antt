-- What single settings ask of a step.
use Rattle.std.specs.Prelude.{◌≡◌, ℕ, List, [], ◌∷◌, Some, slice_get}
use Rattle.std.specs.Option.{option_to_list}
use Rattle.conf_doc.specs.Changes.{HasPlace}
use Rattle.conf_doc.specs.declared.configuration.Config.{Config}
use Rattle.key_split.specs.Key.{key_parts}
use Rattle.move_core.specs.Extensions.{ChangesFor, HasRequired, rule_entry}
use Rattle.move_core.specs.Moves.{Agree, Place}
use Rattle.move_core.specs.declared.settings.CreateOnly.{CreateOnly}
use Rattle.move_core.specs.declared.settings.Required.{Required}
use Rattle.move_core.specs.declared.settings.Requiring.{Requiring}

-- the create-only field of an entry that is in both is absent in both or equal in both
abbrev pub KeepsFieldAt : Config → Config → CreateOnly → List ℕ → Type 0
KeepsFieldAt cur next c k =
    HasPlace cur (c.table ∷ k ∷ []) → HasPlace next (c.table ∷ k ∷ [])
    → Agree cur next (c.table ∷ k ∷ c.field ∷ [])

-- so it is in each entry
abbrev pub KeepsField : Config → Config → CreateOnly → Type 0
KeepsField cur next c = (k : List ℕ) → KeepsFieldAt cur next c k

-- the place of a requiring setting at a key
abbrev pub requiring_place : Requiring → List ℕ → Place
requiring_place q key = q.table ∷ key ∷ option_to_list q.field

-- where the entry of the rule at a key is in both, it has the required value in both
abbrev pub HasValueInBoth : Required → Config → Config → List ℕ → Type 0
HasValueInBoth r cur next k =
    HasPlace cur (rule_entry r k) → HasPlace next (rule_entry r k)
    → HasRequired r k cur × HasRequired r k next

-- where the requiring place at a key changes, that holds at the part of the key which is the rule's
abbrev pub KeepsKey : Required → Config → Config → Requiring → List ℕ → Type 0
KeepsKey r cur next q key =
    (k : List ℕ) → slice_get (key_parts key) q.part ≡ Some k
    → ¬ Agree cur next (requiring_place q key) → HasValueInBoth r cur next k

-- each key of a table of the configuration keeps to something
abbrev pub KeepsKeysOf : Config → List ℕ → (List ℕ → Type 0) → Type 0
KeepsKeysOf c t Keeps = (key : List ℕ) → HasPlace c (t ∷ key ∷ []) → Keeps key

-- so does each key that there may be
pub record KeepsPlaces (r : Required) (cur next : Config) (q : Requiring) : Type 0 where
  pub at : (key : List ℕ) → KeepsKey r cur next q key

-- a rule is kept at each key
pub record KeepsRule (cur next : Config) (r : Required) : Type 0 where
  pub at : (k : List ℕ) → ChangesFor r k cur next → HasValueInBoth r cur next k
