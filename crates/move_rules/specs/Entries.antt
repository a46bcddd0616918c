-- What the rules say of one entry.
use Rattle.std.specs.Prelude.{◌≡◌, ◌≢◌, ℕ, List, [], ◌∷◌, Option, Some, None, slice_get, map}
use Rattle.std.specs.Option.{option_to_list}
use Rattle.conf_doc.specs.Changes.{part_at, HasPlace}
use Rattle.conf_doc.specs.declared.configuration.Config.{Config}
use Rattle.conf_doc.specs.declared.configuration.Table.{Table}
use Rattle.key_split.specs.Key.{key_parts}
use Rattle.move_core.specs.Extensions.{HasRequired, rule_entry}
use Rattle.move_core.specs.Moves.{Agree, Place}
use Rattle.move_core.specs.declared.settings.CreateOnly.{CreateOnly}
use Rattle.move_core.specs.declared.settings.Required.{Required}
use Rattle.move_core.specs.declared.settings.Requiring.{Requiring}

-- each item is as P says
abbrev pub AreAll : {A : Type 0} → (A → Type 0) → List A → Type 0
AreAll {A = A} P xs = (i : ℕ) (a : A) → slice_get xs i ≡ Some a → P a

-- each key is, of a table that may be there
abbrev pub AreKeys : (List ℕ → Type 0) → Option Table → Type 0
AreKeys P None = Unit {0}
AreKeys P (Some table) = AreAll P (map (λ e. e.0) table)

-- ---- create-only

-- where the entry is in both, the field is absent in both or equal in both
abbrev pub KeepsField : Config → Config → List ℕ → List ℕ → List ℕ → Type 0
KeepsField cur next t k f =
    HasPlace cur (t ∷ k ∷ []) → HasPlace next (t ∷ k ∷ []) → Agree cur next (t ∷ k ∷ f ∷ [])

-- that of a create-only rule for the table
abbrev pub KeepsRuleField : Config → Config → List ℕ → List ℕ → CreateOnly → Type 0
KeepsRuleField cur next t k c = c.table ≡ t → KeepsField cur next t k c.field

-- those of all create-only rules
abbrev pub KeepsFields : List CreateOnly → Config → Config → List ℕ → List ℕ → Type 0
KeepsFields rules cur next t k = AreAll (KeepsRuleField cur next t k) rules

-- ---- required

-- a requiring place at a key of its table
abbrev pub requiring_place : Requiring → List ℕ → Place
requiring_place q key = q.table ∷ key ∷ option_to_list q.field

-- where a rule's entry is in both, it has the required value in both
abbrev pub HasRequiredInBoth : Required → List ℕ → Config → Config → Type 0
HasRequiredInBoth r k cur next =
    HasPlace cur (rule_entry r k) → HasPlace next (rule_entry r k)
    → HasRequired r k cur × HasRequired r k next

-- where the requiring place at a key changes, so it is of the entry that the key names
abbrev pub KeepsPlace : Required → Config → Config → List ℕ → Requiring → Type 0
KeepsPlace r cur next key q =
    (k : List ℕ) → slice_get (key_parts key) q.part ≡ Some k
    → part_at cur (requiring_place q key) ≢ part_at next (requiring_place q key)
    → HasRequiredInBoth r k cur next

-- of the requiring places in a table
abbrev pub KeepsPlaceIn : List ℕ → Required → Config → Config → List ℕ → Requiring → Type 0
KeepsPlaceIn t r cur next key q = q.table ≡ t → KeepsPlace r cur next key q

-- of a rule
abbrev pub KeepsPlaces : List ℕ → List ℕ → Config → Config → Required → Type 0
KeepsPlaces t key cur next r = AreAll (KeepsPlaceIn t r cur next key) r.requiring

-- of all rules
abbrev pub KeepsAllPlaces : List Required → List ℕ → Config → Config → List ℕ → Type 0
KeepsAllPlaces rules t cur next key = AreAll (KeepsPlaces t key cur next) rules
