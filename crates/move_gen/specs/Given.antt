-- What is given for one table, one entry and one field.
use Rattle.std.specs.Prelude.{◌≡◌, ◌≢◌, ◌⊎◌, ℕ, List, [], ◌∷◌, Some, None}
use Rattle.conf_doc.specs.Changes.{part_at}
use Rattle.conf_doc.specs.ListHolders.{HasNoList}
use Rattle.conf_doc.specs.Pairs.{find}
use Rattle.conf_doc.specs.declared.configuration.Config.{Config}
use Rattle.conf_doc.specs.declared.configuration.Entry.{Entry}
use Rattle.conf_doc.specs.declared.configuration.Table.{Table}
use Rattle.conf_doc.specs.declared.configuration.Value.{Value}
use Rattle.conf_doc.specs.declared.parts.Part.TheVariants as part
use Rattle.move_core.specs.Generated.{SaysOfEntry, added_entry, field_class, key_class, table_class}
use Rattle.move_core.specs.Moves.{Lacks, Place, place}
use Rattle.move_core.specs.declared.moves.Generated.{Generated}
use Rattle.move_core.specs.declared.moves.Move.{Move}
use Rattle.move_core.specs.declared.moves.Move.TheVariants.{Add, Remove, Replace}
use Rattle.move_gen.specs.FieldsOfEntry.{IsForEntry}
use Rattle.move_gen.specs.Giving.{Giver, IsOfSome}

-- a move for a place, of a class
abbrev pub move_for : Move → Place → ℕ → Generated
move_for m p class = record { mv = m; place = p; class = class }

-- a move for its own place
abbrev pub own_move : Move → ℕ → Generated
own_move m class = move_for m (place m) class

-- ---- tables

-- the remove of a table that goal lacks
abbrev pub IsRemovedTable : Config → Giver Table Generated
IsRemovedTable goal t table g = Lacks goal (t ∷ []) × (g ≡ own_move (Remove (t ∷ [])) table_class)

-- the add of a table that cur lacks
abbrev pub IsAddedTable : Config → Giver Table Generated
IsAddedTable cur t table g =
    Lacks cur (t ∷ []) × (g ≡ own_move (Add (t ∷ []) (part.Table table)) table_class)

-- ---- entries

-- what a table, a key, the entry there and a move have to do with one another
abbrev pub EntryGiver : Type 1
EntryGiver = List ℕ → Giver Entry Generated

-- each move is
abbrev pub AreForEntries : EntryGiver → Type 0
AreForEntries Is = (t k : List ℕ) (e : Entry) (g : Generated) → Is t k e g → IsForEntry t k g

-- each is for an entry that the other configuration lacks
abbrev pub AreOfMissing : EntryGiver → Config → Type 0
AreOfMissing Is other =
    (t k : List ℕ) (e : Entry) (g : Generated) → Is t k e g → Lacks other (t ∷ k ∷ [])

-- each is for an entry that holds a list
abbrev pub AreOfLists : EntryGiver → Type 0
AreOfLists Is = (t k : List ℕ) (e : Entry) (g : Generated) → Is t k e g → ¬ HasNoList e

-- none is for an entry that the other configuration has the same
abbrev pub AreForDiffering : EntryGiver → Config → Type 0
AreForDiffering Is other =
    (t k : List ℕ) (e : Entry) (g : Generated) → Is t k e g
    → part_at other (t ∷ k ∷ []) ≢ Some (part.Entry e)

-- what is given for the entries of a table
abbrev pub IsOfTable : EntryGiver → Giver Table Generated
IsOfTable Is t table g = IsOfSome (Is t) table g

-- the remove of an entry that goal lacks
abbrev pub IsRemovedEntry : Config → EntryGiver
IsRemovedEntry goal t k e g =
    Lacks goal (t ∷ k ∷ []) × (g ≡ own_move (Remove (t ∷ k ∷ [])) key_class)

-- the add of an entry that cur lacks, as IsAs says of its table, its key and goal's entry
pub record IsAddedEntry
    (IsAs : SaysOfEntry) (class : ℕ) (cur : Config) (t k : List ℕ) (e : Entry) (g : Generated)
    : Type 0 where
  pub new : Entry
  pub lacks : Lacks cur (t ∷ k ∷ [])
  pub alike : IsAs t k e new
  pub is : g ≡ move_for (added_entry cur t k new) (t ∷ k ∷ []) class

-- ---- fields

-- the remove of a field that goal's entry lacks
abbrev pub IsRemovedField : List ℕ → List ℕ → Entry → Giver Value Generated
IsRemovedField t k new f v g =
    (find f new ≡ None) × (g ≡ own_move (Remove (t ∷ k ∷ f ∷ [])) field_class)

-- the add of a field that cur's entry lacks
abbrev pub IsAddedField : List ℕ → List ℕ → Entry → Giver Value Generated
IsAddedField t k old f v g =
    (find f old ≡ None) × (g ≡ own_move (Add (t ∷ k ∷ f ∷ []) (part.Value v)) field_class)

-- the replace of another value
abbrev pub IsReplace : List ℕ → List ℕ → Value → Giver Value Generated
IsReplace t k u f v g =
    (u ≢ v) × (g ≡ own_move (Replace (t ∷ k ∷ f ∷ []) (part.Value v)) field_class)

-- so of cur's entry
abbrev pub IsReplacedField : List ℕ → List ℕ → Entry → Giver Value Generated
IsReplacedField t k old f v g = (u : Value) × (find f old ≡ Some u) × IsReplace t k u f v g

-- a field is set to goal's value
abbrev pub IsSetField : List ℕ → List ℕ → Entry → Giver Value Generated
IsSetField t k old f v g = IsAddedField t k old f v g ⊎ IsReplacedField t k old f v g

-- a field of an entry that both have is given goal's value, or removed
abbrev pub IsOfFields : List ℕ → List ℕ → Entry → Entry → Generated → Type 0
IsOfFields t k old new g =
    IsOfSome (IsRemovedField t k new) old g ⊎ IsOfSome (IsSetField t k old) new g

-- so for cur's entry at the place of goal's
pub record IsChangedEntry (cur : Config) (t k : List ℕ) (new : Entry) (g : Generated) : Type 0 where
  pub old : Entry
  pub there : part_at cur (t ∷ k ∷ []) ≡ Some (part.Entry old)
  pub is : IsOfFields t k old new g
