-- What is first among wants, from a place on.
use Rattle.std.specs.Prelude.{◌≡◌, ◌⊎◌, ◌<◌, ◌≤◌, ℕ, List, Option, Some, None, MatchOption, option_map, option_and_then, slice_get}
use denote.Ref.{Bor}
use Rattle.conf_doc.specs.declared.configuration.Config.{Config}
use Rattle.conf_doc.specs.declared.configuration.Entry.{Entry}
use Rattle.conf_doc.specs.declared.configuration.Value.{Value}
use Rattle.yang_model.specs.ModelSets.{ModelSet}
use Rattle.yang_model.specs.declared.shapes.Shape.{Shape}
use Rattle.yang_types.specs.DataType.{DataType}
use Rattle.conf_check.specs.Rows.{Row, HasShape, typed_part, typed_item, typed_text, texts_of}
use Rattle.conf_check.specs.Wants.{Want, want_of, field_name, IsWantedText, IsWantAt, IsFieldBefore, IsPlaceBefore}
use Rattle.conf_check.specs.declared.want_iter.Want.{Want as LentWant}
use Rattle.conf_check.specs.declared.first_wants.FieldWant.{FieldWant}
use Rattle.conf_check.specs.declared.first_wants.ItemWant.{ItemWant}
use Rattle.conf_check.specs.declared.first_wants.SlotWant.{SlotWant}
use Rattle.conf_check.specs.declared.want_iter.WantAt.{WantAt}
use Rattle.conf_check.specs.declared.want_iter.WantPlace.{WantPlace}

-- the answer is the want of a text by its type, or None where it has none
abbrev pub IsWantOf : ModelSet → Config → Option (DataType × List ℕ) → Option LentWant → Type 0
IsWantOf models config typed answer =
    MatchOption answer
    ((w : Want) → ¬ IsWantedText models config typed w)
    (λ w. IsWantedText models config typed (want_of w))

-- the same of a text by its type
abbrev pub IsWantOfText : ModelSet → Config → DataType → List ℕ → Option LentWant → Type 0
IsWantOfText models config type text answer = IsWantOf models config (Some (type, text)) answer

-- a lent text with its type
abbrev pub typed_by : DataType → Bor (List ℕ) → DataType × List ℕ
typed_by type s = (type, s.now)

-- the answer is the first of what W holds from a number on, or None where it holds of none
abbrev pub IsFirstFrom : (ℕ → Want → Type 0) → ℕ → Option ItemWant → Type 0
IsFirstFrom W from answer =
    MatchOption answer
    ((i : ℕ) (w : Want) → from ≤ i → ¬ W i w)
    (λ a. (from ≤ a.item) × W a.item (want_of a.want)
    × ((i : ℕ) (w : Want) → from ≤ i → i < a.item → ¬ W i w))

-- an item of some texts of a type has a want
abbrev pub IsWantedItem : ModelSet → Config → DataType → List (List ℕ) → ℕ → Want → Type 0
IsWantedItem models config type texts i =
    IsWantedText models config (option_map (λ s. (type, s)) (slice_get texts i))

-- an item of a field with its type
abbrev pub item_of : Shape → List ℕ × Value → ℕ → Option (DataType × List ℕ)
item_of shape field i =
    option_and_then (λ ts. option_map (λ s. (ts.0, s)) (slice_get ts.1 i)) (texts_of shape field)

-- an item of a field has a want
abbrev pub IsWantedItemOf : ModelSet → Config → Shape → List ℕ → Value → ℕ → Want → Type 0
IsWantedItemOf models config shape name value i =
    IsWantedText models config (item_of shape (name, value) i)

-- a part of a key has
abbrev pub IsWantedPart : ModelSet → Config → Shape → List ℕ → ℕ → Want → Type 0
IsWantedPart models config shape key i =
    IsWantedText models config (typed_part shape key i)

-- an item of some field of an entry has a want
abbrev pub IsWantedSlot : ModelSet → Config → Shape → Entry → ℕ → ℕ → Want → Type 0
IsWantedSlot models config shape fields field i =
    IsWantedText models config (typed_item shape fields field i)

-- the second field and item stand at the first or behind it, and before it
abbrev pub IsSlotFrom : ℕ → ℕ → ℕ → ℕ → Type 0
IsSlotFrom field item f i = (field < f) ⊎ ((field ≡ f) × (item ≤ i))

-- the first stands before the second
abbrev pub IsSlotBefore : ℕ → ℕ → ℕ → ℕ → Type 0
IsSlotBefore f i g j = (f < g) ⊎ ((f ≡ g) × (i < j))

-- the answer is the first want of the fields, from a field and an item on
abbrev pub IsFirstInFields : ModelSet → Config → Shape → Entry → ℕ → ℕ → Option FieldWant → Type 0
IsFirstInFields models config shape fields from item answer =
    MatchOption answer
    ((f i : ℕ) (w : Want) → IsSlotFrom from item f i
    → ¬ IsWantedSlot models config shape fields f i w)
    (λ a. IsSlotFrom from item a.field a.item
    × IsWantedSlot models config shape fields a.field a.item (want_of a.want)
    × ((f i : ℕ) (w : Want) → IsSlotFrom from item f i → IsSlotBefore f i a.field a.item
    → ¬ IsWantedSlot models config shape fields f i w))

-- within an entry, parts of the key before fields
abbrev pub IsTextBefore : Option ℕ → ℕ → Option ℕ → ℕ → Type 0
IsTextBefore f i g j = IsFieldBefore f g ⊎ ((f ≡ g) × (i < j))

-- the answer is the first of what W holds in an entry, from a field and an item on
abbrev pub IsFirstText : (Option ℕ → ℕ → Want → Type 0) → Option ℕ → ℕ → Option SlotWant → Type 0
IsFirstText W field item answer =
    MatchOption answer
    ((f : Option ℕ) (i : ℕ) (w : Want) → ¬ IsTextBefore f i field item → ¬ W f i w)
    (λ a. (¬ IsTextBefore a.field a.item field item) × W a.field a.item (want_of a.want)
    × ((f : Option ℕ) (i : ℕ) (w : Want) → ¬ IsTextBefore f i field item
    → IsTextBefore f i a.field a.item → ¬ W f i w))

-- a text of an entry of that shape has a want
abbrev pub IsWantedIn : ModelSet → Config → Shape → Row → Option ℕ → ℕ → Want → Type 0
IsWantedIn models config shape row field i =
    IsWantedText models config (typed_text shape row field i)

-- a text of an entry has a want
pub record IsWantedAt (models : ModelSet) (config : Config) (row : Row) (field : Option ℕ)
    (i : ℕ) (w : Want) : Type 0 where
  pub shape : Shape
  pub shaped : HasShape models row shape
  pub wanted : IsWantedIn models config shape row field i w

-- the place where an entry begins
abbrev pub start_of : ℕ → ℕ → WantPlace
start_of table key = record { table = table; key = key; field = None; item = 0 }

-- the answer is the first want of a configuration from a place on
abbrev pub IsFirstWant : ModelSet → Config → WantPlace → Option (WantPlace × WantAt) → Type 0
IsFirstWant models config from answer =
    MatchOption answer
    ((p : WantPlace) (w : Want) → ¬ IsPlaceBefore p from → ¬ IsWantAt models config p w)
    (λ a. (¬ IsPlaceBefore a.0 from) × IsWantAt models config a.0 (want_of a.1.want)
    × ((p : WantPlace) (w : Want) → ¬ IsPlaceBefore p from → IsPlaceBefore p a.0
    → ¬ IsWantAt models config p w))

-- two places of one entry
abbrev pub AreOfOneEntry : WantPlace → WantPlace → Type 0
AreOfOneEntry a b = (a.table ≡ b.table) × (a.key ≡ b.key)

-- the answer is the first want of the entry at a place, from that place on
abbrev pub IsFirstOfEntry : ModelSet → Config → WantPlace → Option (WantPlace × WantAt) → Type 0
IsFirstOfEntry models config from answer =
    MatchOption answer
    ((p : WantPlace) (w : Want) → AreOfOneEntry p from → ¬ IsPlaceBefore p from
    → ¬ IsWantAt models config p w)
    (λ a. AreOfOneEntry a.0 from × (¬ IsPlaceBefore a.0 from)
    × IsWantAt models config a.0 (want_of a.1.want)
    × ((p : WantPlace) (w : Want) → AreOfOneEntry p from → ¬ IsPlaceBefore p from
    → IsPlaceBefore p a.0 → ¬ IsWantAt models config p w))

-- the field of an entry has that position and that name
abbrev pub IsFieldNamed : Entry → Option ℕ → Option (Bor (List ℕ)) → Type 0
IsFieldNamed fields field name = field_name fields field ≡ Some (option_map (λ s. s.now) name)
