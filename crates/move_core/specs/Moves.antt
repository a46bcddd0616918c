-- Moves: a part of a configuration added, removed or replaced at a place, or an item of a list added or removed.
use Rattle.std.specs.Prelude.{◌≡◌, ◌<◌, ◌≤◌, ℕ, List, [], length, insert, remove as removed_at, Option, Some, None, option_and_then, unwrap_or, IsSomeAnd}
use Rattle.conf_doc.specs.Changes.{part_at, HasPlace, HasParent, Fits, with_part}
use Rattle.conf_doc.specs.declared.configuration.Config.{Config}
use Rattle.conf_doc.specs.declared.configuration.Value.TheVariants.{Text, List as Listed}
use Rattle.conf_doc.specs.declared.parts.Part.{Part}
use Rattle.conf_doc.specs.declared.parts.Part.TheVariants as part
use Rattle.move_core.specs.declared.moves.Move.{Move}
use Rattle.move_core.specs.declared.moves.Move.TheVariants.{Add, Remove, Replace, AddItem, RemoveItem}

-- the names of a place: a table, its key and a field of the entry
abbrev pub Place : Type 0
Place = List (List ℕ)

-- ---- the place of a move

-- Where a move changes something: a place of one to three names, of an item the field that holds its list.
-- What a generated move is for stands beside it (`Generated`); what its operation names is `named_place`
-- (`Operations`), which has the index of an item behind these names.
abbrev pub place : Move → Place
place (Add path part) = path
place (Remove path) = path
place (Replace path part) = path
place (AddItem path i text) = path
place (RemoveItem path i) = path

-- the index of an item that is added or removed, counted from 0
abbrev pub index : Move → Option ℕ
index (Add path part) = None
index (Remove path) = None
index (Replace path part) = None
index (AddItem path i text) = Some i
index (RemoveItem path i) = Some i

-- the part that is put at the place
abbrev pub new_part : Move → Option Part
new_part (Add path part) = Some part
new_part (Remove path) = None
new_part (Replace path part) = Some part
new_part (AddItem path i text) = None
new_part (RemoveItem path i) = None

-- the text of an item that is put in a list
abbrev pub new_text : Move → Option (List ℕ)
new_text (Add path part) = None
new_text (Remove path) = None
new_text (Replace path part) = None
new_text (AddItem path i text) = Some text
new_text (RemoveItem path i) = None

-- ---- lists

-- the items of a part that is a list
abbrev pub list_in : Part → Option (List (List ℕ))
list_in (part.Table t) = None
list_in (part.Entry e) = None
list_in (part.Value (Text s)) = None
list_in (part.Value (Listed items)) = Some items

-- the items of the list that stands at a place, where one does
abbrev pub list_at : Config → Place → Option (List (List ℕ))
list_at c p = option_and_then list_in (part_at c p)

-- those items; no items where no list stands there
abbrev pub items_at : Config → Place → List (List ℕ)
items_at c p = unwrap_or (list_at c p) []

-- a list as a part
abbrev pub list_part : List (List ℕ) → Part
list_part items = part.Value (Listed items)

-- ---- what a move does

-- An add needs the parent there and the place empty, a remove and a replace need the place there. The value of
-- a place of one name is a table, of two an entry, of three a text or a list of texts. An item is added to a list
-- of at least as many items as its index says, and removed from one of more.
abbrev pub IsDefined : Config → Move → Type 0
IsDefined c (Add path part) = Fits path part × HasParent c path × (part_at c path ≡ None)
IsDefined c (Remove path) = HasPlace c path
IsDefined c (Replace path part) = Fits path part × HasPlace c path
IsDefined c (AddItem path i text) = IsSomeAnd (list_at c path) (λ items. i ≤ length items)
IsDefined c (RemoveItem path i) = IsSomeAnd (list_at c path) (λ items. i < length items)

-- what stands at the place afterwards: an added item goes in at its index, a removed one is closed up
abbrev pub part_after : Config → Move → Option Part
part_after c (Add path part) = Some part
part_after c (Remove path) = None
part_after c (Replace path part) = Some part
part_after c (AddItem path i text) = Some (list_part (insert (items_at c path) i text))
part_after c (RemoveItem path i) = Some (list_part (removed_at (items_at c path) i))

-- the configuration after a move
abbrev pub step : Config → Move → Config
step c m = with_part c (place m) (part_after c m)

-- nothing stands there
abbrev pub Lacks : Config → Place → Type 0
Lacks c p = part_at c p ≡ None

-- the same stands there in both, or nothing in either
abbrev pub Agree : Config → Config → Place → Type 0
Agree a b p = part_at a p ≡ part_at b p
