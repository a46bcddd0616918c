-- What is given for the items of one list, one field and one entry.
use Rattle.std.specs.Prelude.{◌≡◌, ◌⊎◌, ℕ, List, [], ◌∷◌, Some}
use Rattle.conf_doc.specs.Changes.{part_at}
use Rattle.conf_doc.specs.Pairs.{find}
use Rattle.conf_doc.specs.declared.configuration.Config.{Config}
use Rattle.conf_doc.specs.declared.configuration.Entry.{Entry}
use Rattle.conf_doc.specs.declared.configuration.Value.{Value}
use Rattle.conf_doc.specs.declared.configuration.Value.TheVariants.{Text, List as Listed}
use Rattle.conf_doc.specs.declared.parts.Part.TheVariants as part
use Rattle.move_core.specs.Generated.{IsFirstDifference, IsItemAdded, IsItemRemoved, item_class}
use Rattle.move_core.specs.Moves.{Place}
use Rattle.move_core.specs.declared.moves.Generated.{Generated}
use Rattle.move_core.specs.declared.moves.Move.TheVariants.{AddItem, RemoveItem}
use Rattle.move_gen.specs.Given.{own_move}
use Rattle.move_gen.specs.Giving.{IsOfSome}

-- the remove of cur's item at an index
abbrev pub IsRemovedItem : (old new : List (List ℕ)) → Place → ℕ → Generated → Type 0
IsRemovedItem old new p i g = IsItemRemoved old new i × (g ≡ own_move (RemoveItem p i) item_class)

-- goal has an item there that cur's list lacks
abbrev pub HasNewItem : (old new : List (List ℕ)) → ℕ → Type 0
HasNewItem old new i = (text : List ℕ) × IsItemAdded old new i text

-- the add of goal's item there
abbrev pub IsAddedItem : (old new : List (List ℕ)) → Place → ℕ → Generated → Type 0
IsAddedItem old new p i g =
    (text : List ℕ)
    × IsItemAdded old new i text × (g ≡ own_move (AddItem p i text) item_class)

-- one of both
abbrev pub IsItemAt : (old new : List (List ℕ)) → Place → ℕ → Generated → Type 0
IsItemAt old new p i g = IsRemovedItem old new p i g ⊎ IsAddedItem old new p i g

-- where the lists first differ
pub record IsOfItems (old new : List (List ℕ)) (p : Place) (g : Generated) : Type 0 where
  pub index : ℕ
  pub first : IsFirstDifference old new index
  pub is : IsItemAt old new p index g

-- of two values that are lists
abbrev pub IsOfLists : Place → Value → Value → Generated → Type 0
IsOfLists p (Text s) v g = ⊥
IsOfLists p (Listed old) (Text s) g = ⊥
IsOfLists p (Listed old) (Listed new) g = IsOfItems old new p g

-- none are of that value in goal's entry
abbrev pub HasNoItems : Value → Type 0
HasNoItems v = (p : Place) (before : Value) (g : Generated) → ¬ IsOfLists p before v g

-- of the value of a field in cur's entry and in goal's
pub record IsItemOfField (t k : List ℕ) (old : Entry) (f : List ℕ) (v : Value) (g : Generated)
    : Type 0 where
  pub before : Value
  pub there : find f old ≡ Some before
  pub is : IsOfLists (t ∷ k ∷ f ∷ []) before v g

-- of cur's entry at the place of goal's
pub record IsOfItemsOfEntry (cur : Config) (t k : List ℕ) (new : Entry) (g : Generated)
    : Type 0 where
  pub old : Entry
  pub there : part_at cur (t ∷ k ∷ []) ≡ Some (part.Entry old)
  pub is : IsOfSome (IsItemOfField t k old) new g
