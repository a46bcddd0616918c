-- The moves that the extenders make of a move at a configuration.
use Rattle.std.specs.Prelude.{◌≡◌, ◌≢◌, ◌⊎◌, ℕ, List, [], ◌∷◌, Option, Some, None, is_some, slice_get, unwrap_or, Contains, if◌then◌else◌, IsSomeAnd}
use Rattle.std.specs.Option.{option_map_or, option_to_list}
use Rattle.conf_doc.specs.Changes.{part_at, HasPlace}
use Rattle.conf_doc.specs.declared.configuration.Config.{Config}
use Rattle.conf_doc.specs.declared.configuration.Value.TheVariants.{Text}
use Rattle.conf_doc.specs.declared.parts.Part.{Part}
use Rattle.conf_doc.specs.declared.parts.Part.TheVariants as part
use Rattle.key_split.specs.Key.{key_parts}
use Rattle.move_core.specs.Moves.{Place, step}
use Rattle.move_core.specs.Rulebook.{Rulebook}
use Rattle.move_core.specs.declared.moves.Move.{Move}
use Rattle.move_core.specs.declared.moves.Move.TheVariants.{Add, Remove, Replace, AddItem, RemoveItem}
use Rattle.move_core.specs.declared.settings.Required.{Required}
use Rattle.move_core.specs.declared.settings.Requiring.{Requiring}

-- ---- the place above, and the same place

-- the place one name shorter, of a place of two or three names
abbrev pub upper : Place → Option Place
upper (t ∷ k ∷ []) = Some (t ∷ [])
upper (t ∷ k ∷ f ∷ []) = Some (t ∷ k ∷ [])
upper p = None

-- the place one name shorter than the one that the move's operation names: of an item the field
abbrev pub upper_place : Move → Option Place
upper_place (Add p part) = upper p
upper_place (Remove p) = upper p
upper_place (Replace p part) = upper p
upper_place (AddItem p i text) = Some p
upper_place (RemoveItem p i) = Some p

-- the place becomes as in goal: its value, or nothing where goal lacks it
abbrev pub as_in_goal : Config → Place → Move
as_in_goal goal p = option_map_or (Replace p) (part_at goal p) (Remove p)

-- the place above becomes as in goal
abbrev pub IsUpper : Config → Move → Move → Type 0
IsUpper goal m x = IsSomeAnd (upper_place m) (λ p. x ≡ as_in_goal goal p)

-- what would be replaced is removed
abbrev pub IsDelete : Move → Move → Type 0
IsDelete (Add p part) x = ⊥
IsDelete (Remove p) x = ⊥
IsDelete (Replace p part) x = x ≡ Remove p
IsDelete (AddItem p i text) x = ⊥
IsDelete (RemoveItem p i) x = ⊥

-- ---- wants

-- what stands at a place is removed, or where an index is given that item of its list
abbrev pub removal : Place → Option ℕ → Move
removal p None = Remove p
removal p (Some i) = RemoveItem p i

-- what has a want is removed which the move leaves unsatisfied: an entry, a field, or an item of a list
pub record IsReferrer (book : Rulebook) (cur : Config) (m x : Move) : Type 0 where
  pub at : Place
  pub item : Option ℕ
  pub want : book.Want
  pub there : book.HasWant cur at item want
  pub broken : ¬ book.IsSatisfied (step cur m) want
  pub move : x ≡ removal at item

-- ---- required values

-- a place that requires the value of a rule at a key: an entry whose part of that number is the key, or
-- one field of it
pub record IsRequiringPlace (r : Required) (k : List ℕ) (p : Place) : Type 0 where
  pub requiring : Requiring
  pub listed : Contains r.requiring requiring
  pub key : List ℕ
  pub part : slice_get (key_parts key) requiring.part ≡ Some k
  pub is : p ≡ requiring.table ∷ key ∷ option_to_list requiring.field

-- such a place differs between two configurations; to be absent is a value
pub record ChangesFor (r : Required) (k : List ℕ) (cur next : Config) : Type 0 where
  pub at : Place
  pub requires : IsRequiringPlace r k at
  pub differs : part_at cur at ≢ part_at next at

-- the entry of the rule's table at a key
abbrev pub rule_entry : Required → List ℕ → Place
rule_entry r k = r.table ∷ k ∷ []

-- the rule's field there
abbrev pub rule_field : Required → List ℕ → Place
rule_field r k = r.table ∷ k ∷ r.field ∷ []

-- the required value
abbrev pub required_part : Required → Part
required_part r = part.Value (Text r.value)

-- the rule's field has the required value; absent it counts as having the default
abbrev pub HasRequired : Required → List ℕ → Config → Type 0
HasRequired r k c =
    unwrap_or (part_at c (rule_field r k)) (part.Value (Text r.default)) ≡ required_part r

-- the value is put in its place, as a Replace of what is there or as an Add
abbrev pub put_value : Config → Place → Part → Move
put_value cur p v = if is_some (part_at cur p) then Replace p v else Add p v

-- a rule's field gets the required value before the move changes what requires it
pub record IsRequired (book : Rulebook) (cur : Config) (m x : Move) : Type 0 where
  pub rule : Required
  pub listed : Contains book.settings.required rule
  pub key : List ℕ
  pub modelled : book.IsModelled rule.table
  pub changes : ChangesFor rule key cur (step cur m)
  pub before : HasPlace cur (rule_entry rule key)
  pub after : HasPlace (step cur m) (rule_entry rule key)
  pub other : ¬ HasRequired rule key cur
  pub move : x ≡ put_value cur (rule_field rule key) (required_part rule)

-- ---- the four extenders

-- what the extender of a kind gives: 1 the place above, 2 the delete, 3 referrers, 4 required values
abbrev pub IsExtension : Rulebook → Config → Config → ℕ → Move → Move → Type 0
IsExtension book cur goal kind m x =
    ((kind ≡ 1) × IsUpper goal m x)
    ⊎ (((kind ≡ 2) × IsDelete m x)
    ⊎ (((kind ≡ 3) × IsReferrer book cur m x)
    ⊎ ((kind ≡ 4) × IsRequired book cur m x)))
