-- The moves that the generators give, each with the place that it is for and its class.
use Rattle.std.specs.Prelude.{◌≡◌, ◌≢◌, ◌⊎◌, ◌↔◌, ℕ, List, [], ◌∷◌, length, take, slice_get, Option, Some, is_some, if◌then◌else◌, IsSomeAnd}
use Rattle.std.specs.List.{Contains}
use Rattle.conf_doc.specs.Changes.{part_at, HasPlace, HasParent}
use Rattle.conf_doc.specs.Pairs.{find, IsRising}
use Rattle.conf_doc.specs.declared.configuration.Config.{Config}
use Rattle.conf_doc.specs.declared.configuration.Entry.{Entry}
use Rattle.conf_doc.specs.declared.configuration.Value.{Value}
use Rattle.conf_doc.specs.declared.parts.Part.TheVariants as part
use Rattle.move_core.specs.Moves.{Place, place, list_at, Lacks, Agree}
use Rattle.move_core.specs.Rulebook.{Rulebook}
use Rattle.move_core.specs.declared.moves.Generated.{Generated}
use Rattle.move_core.specs.declared.moves.Move.{Move}
use Rattle.move_core.specs.declared.moves.Move.TheVariants.{Add, Remove, Replace, AddItem, RemoveItem}

-- ---- classes

-- the class of what the first generator gives
abbrev pub table_class : ℕ
table_class = 0

-- of the second
abbrev pub key_class : ℕ
key_class = 1

-- of the fifth
abbrev pub item_class : ℕ
item_class = 2

-- of the third
abbrev pub field_class : ℕ
field_class = 3

-- of the fourth
abbrev pub seed_class : ℕ
seed_class = 4

-- ---- moves towards goal at their own place

-- a table is removed that goal lacks, or added as in goal that cur lacks
abbrev pub IsTableMove : Config → Config → Move → Type 0
IsTableMove cur goal (Remove p) = (length p ≡ 1) × HasPlace cur p × Lacks goal p
IsTableMove cur goal (Add p part) = (length p ≡ 1) × Lacks cur p × (part_at goal p ≡ Some part)
IsTableMove cur goal (Replace p part) = ⊥
IsTableMove cur goal (AddItem p i text) = ⊥
IsTableMove cur goal (RemoveItem p i) = ⊥

-- an entry is removed that goal lacks
abbrev pub IsKeyRemove : Config → Config → Move → Type 0
IsKeyRemove cur goal (Remove p) = (length p ≡ 2) × HasPlace cur p × Lacks goal p
IsKeyRemove cur goal (Add p part) = ⊥
IsKeyRemove cur goal (Replace p part) = ⊥
IsKeyRemove cur goal (AddItem p i text) = ⊥
IsKeyRemove cur goal (RemoveItem p i) = ⊥

-- a field of an entry that both have is removed, added or replaced to goal's
abbrev pub IsFieldMove : Config → Config → Move → Type 0
IsFieldMove cur goal (Remove p) =
    (length p ≡ 3) × HasParent goal p × HasPlace cur p × Lacks goal p
IsFieldMove cur goal (Add p part) =
    (length p ≡ 3) × HasParent cur p × Lacks cur p × (part_at goal p ≡ Some part)
IsFieldMove cur goal (Replace p part) =
    (length p ≡ 3) × HasPlace cur p × (part_at goal p ≡ Some part) × (part_at cur p ≢ Some part)
IsFieldMove cur goal (AddItem p i text) = ⊥
IsFieldMove cur goal (RemoveItem p i) = ⊥

-- ---- items

-- so many items stand before the first difference of two lists
pub record IsFirstDifference (old new : List (List ℕ)) (i : ℕ) : Type 0 where
  pub before : take i old ≡ take i new
  pub differs : slice_get old i ≢ slice_get new i

-- at a place both have a list, and so many items stand before their first difference
pub record ListsDiffer (cur goal : Config) (p : Place) (i : ℕ) : Type 0 where
  pub old : List (List ℕ)
  pub new : List (List ℕ)
  pub here : list_at cur p ≡ Some old
  pub there : list_at goal p ≡ Some new
  pub first : IsFirstDifference old new i

-- the item goes that goal's list lacks, or in the place of which goal has one that cur's list has elsewhere
abbrev pub IsItemRemoved : (old new : List (List ℕ)) → ℕ → Type 0
IsItemRemoved old new i =
    IsSomeAnd (slice_get old i) (λ item.
    (¬ Contains new item) ⊎ IsSomeAnd (slice_get new i) (Contains old))

-- goal's item comes, which cur's list lacks
abbrev pub IsItemAdded : (old new : List (List ℕ)) → ℕ → List ℕ → Type 0
IsItemAdded old new i text = (slice_get new i ≡ Some text) × (¬ Contains old text)

-- where two lists differ first, an item is removed or added
abbrev pub IsItemMove : Config → Config → Move → Type 0
IsItemMove cur goal (Add p part) = ⊥
IsItemMove cur goal (Remove p) = ⊥
IsItemMove cur goal (Replace p part) = ⊥
IsItemMove cur goal (AddItem p i text) =
    (lists : ListsDiffer cur goal p i) × IsItemAdded lists.old lists.new i text
IsItemMove cur goal (RemoveItem p i) =
    (lists : ListsDiffer cur goal p i) × IsItemRemoved lists.old lists.new i

-- ---- entries added

-- an entry put in its table, or where that isn't there, a table that holds it alone
abbrev pub added_entry : Config → List ℕ → List ℕ → Entry → Move
added_entry cur t k e =
    if is_some (find t cur) then Add (t ∷ k ∷ []) (part.Entry e)
    else Add (t ∷ []) (part.Table ((k, e) ∷ []))

-- what is said of a table, a key, goal's entry there and the entry that is added
abbrev pub SaysOfEntry : Type 1
SaysOfEntry = List ℕ → List ℕ → Entry → Entry → Type 0

-- an entry of goal that cur lacks is added, as IsAs says of its table, its key and goal's entry
pub record AddsEntry (IsAs : SaysOfEntry) (cur goal : Config) (g : Generated) : Type 0 where
  pub table : List ℕ
  pub key : List ℕ
  pub entry : Entry
  pub new : Entry
  pub lacks : Lacks cur (table ∷ key ∷ [])
  pub there : part_at goal (table ∷ key ∷ []) ≡ Some (part.Entry entry)
  pub alike : IsAs table key entry new
  pub move : g.mv ≡ added_entry cur table key new
  pub for : g.place ≡ table ∷ key ∷ []

-- it is goal's
abbrev pub IsWhole : SaysOfEntry
IsWhole t k e new = new ≡ e

-- no want is at the place
abbrev pub HasNoWant : Rulebook → Config → Place → Type 0
HasNoWant book c p = (i : Option ℕ) (w : book.Want) → ¬ book.HasWant c p i w

-- it has those fields of goal's that have no want in goal
pub record IsSeed (book : Rulebook) (goal : Config) (t k : List ℕ) (e new : Entry) : Type 0 where
  pub rising : IsRising new
  pub fields :
      (f : List ℕ) (v : Value)
      → (find f new ≡ Some v) ↔ ((find f e ≡ Some v) × HasNoWant book goal (t ∷ k ∷ f ∷ []))

-- ---- the five generators

-- a move for its own place, of an item for the field that holds its list
abbrev pub IsForItsPlace : Generated → Type 0
IsForItsPlace g = g.place ≡ place g.mv

-- a move of a table
abbrev pub IsFromTables : Config → Config → Generated → Type 0
IsFromTables cur goal g =
    IsTableMove cur goal g.mv × IsForItsPlace g × (g.class ≡ table_class)

-- a remove of an entry, or an add of a whole one
abbrev pub IsFromKeys : Config → Config → Generated → Type 0
IsFromKeys cur goal g =
    ((IsKeyRemove cur goal g.mv × IsForItsPlace g) ⊎ AddsEntry IsWhole cur goal g)
    × (g.class ≡ key_class)

-- a move of a field
abbrev pub IsFromFields : Config → Config → Generated → Type 0
IsFromFields cur goal g =
    IsFieldMove cur goal g.mv × IsForItsPlace g × (g.class ≡ field_class)

-- an add of an entry's seed
abbrev pub IsFromSeeds : Rulebook → Config → Config → Generated → Type 0
IsFromSeeds book cur goal g =
    AddsEntry (IsSeed book goal) cur goal g × (g.class ≡ seed_class)

-- a move of an item
abbrev pub IsFromItems : Config → Config → Generated → Type 0
IsFromItems cur goal g =
    IsItemMove cur goal g.mv × IsForItsPlace g × (g.class ≡ item_class)

-- what the generator of a kind gives: 1 tables, 2 keys, 3 fields, 4 seeds, 5 items
abbrev pub IsGenerated : Rulebook → Config → Config → ℕ → Generated → Type 0
IsGenerated book cur goal kind g =
    ((kind ≡ 1) × IsFromTables cur goal g)
    ⊎ (((kind ≡ 2) × IsFromKeys cur goal g)
    ⊎ (((kind ≡ 3) × IsFromFields cur goal g)
    ⊎ (((kind ≡ 4) × IsFromSeeds book cur goal g)
    ⊎ ((kind ≡ 5) × IsFromItems cur goal g))))

-- start and goal agree at the place that the move is for
abbrev pub IsRestoring : Config → Config → Generated → Type 0
IsRestoring start goal g = Agree start goal g.place
