-- What differs between two configurations, by the names of entries.
use Rattle.std.specs.Prelude.{◌≡◌, ◌⊎◌, ◌<◌, ℕ, Bool, true, false, List, [], Some, map, slice_get}
use Rattle.std.specs.List.{Contains}
use Rattle.std.specs.Option.{option_map_or}
use Rattle.conf_doc.specs.Pairs.{find}
use Rattle.conf_doc.specs.declared.configuration.Config.{Config}
use Rattle.conf_doc.specs.declared.configuration.Entry.{Entry}
use Rattle.conf_doc.specs.declared.configuration.Table.{Table}
use Rattle.key_split.specs.Key.{key_parts}
use Rattle.yang_model.specs.ModelSets.{ModelSet}
use Rattle.conf_check.specs.Rows.{IsEntryAt}
use Rattle.conf_check.specs.Wants.{Want, IsWantAt, want_of}
use Rattle.conf_check.specs.declared.want_iter.WantAt.{WantAt}
use Rattle.conf_check.specs.declared.want_iter.WantPlace.{WantPlace}
use Rattle.ref_index.specs.PlaceMaps.{IsListed}
use Rattle.ref_index.specs.Referrers.{HasWant, IsPlaceAt, place_of}
use Rattle.ref_index.specs.Referring.{may_refer}
use Rattle.ref_index.specs.Texts.{Has, HasNoneOf}
use Rattle.ref_index.specs.declared.entry_names.EntryName.{EntryName}
use Rattle.ref_index.specs.declared.places.Place.{Place}
use Rattle.ref_index.specs.declared.text_sets.TextSet.{TextSet}

-- the table of a name, the empty one where there is none
abbrev pub entries_of : Config → List ℕ → Table
entries_of config t = option_map_or (λ entries. entries) (find t config) []

-- the table has the key
abbrev pub HasKey : Table → List ℕ → Type 0
HasKey table k = Contains (map (λ e. e.0) table) k

-- the table has an entry of that key and those fields
pub record HasEntry (table : Table) (k : List ℕ) (fields : Entry) : Type 0 where
  pub index : ℕ
  pub at : slice_get table index ≡ Some (k, fields)

-- the entry of those names is among some
pub record IsNamed (names : List EntryName) (t k : List ℕ) : Type 0 where
  pub name : EntryName
  pub there : Contains names name
  pub table : name.table.now ≡ t
  pub key : name.key.now ≡ k

-- entries that were named are named
abbrev pub StayNamed : List EntryName → List EntryName → Type 0
StayNamed old new = (t k : List ℕ) → IsNamed old t k → IsNamed new t k

-- the keys of a table are added that another one hasn't
pub record AddsLoneOf (t : List ℕ) (left right : Table) (old new : List EntryName) : Type 0 where
  pub stay : StayNamed old new
  pub all : (k : List ℕ) → HasKey left k → HasKey right k ⊎ IsNamed new t k

-- the same of all tables
pub record AddsLone (first second : Config) (old new : List EntryName) : Type 0 where
  pub stay : StayNamed old new
  pub all :
      (t k : List ℕ) → HasKey (entries_of first t) k
      → HasKey (entries_of second t) k ⊎ IsNamed new t k

-- the set has the parts of the keys of the entries
abbrev pub HoldsParts : List EntryName → TextSet → Type 0
HoldsParts names set =
    (t k s : List ℕ) → IsNamed names t k → Contains (key_parts k) s → Has set s

-- they are the same, and no text of them is in the set
abbrev pub AreTogether : TextSet → List ℕ → Entry → Entry → Type 0
AreTogether parts k left right = (left ≡ right) × HasNoneOf parts k left

-- two entries of a key aren't told apart, so they are so
abbrev pub IsApart : TextSet → List ℕ → Entry → Entry → Bool → Type 0
IsApart parts k left right apart = apart ≡ false → AreTogether parts k left right

-- the keys that both tables have are added, unless the entries there are so
pub record AddsChangedOf (parts : TextSet) (t : List ℕ) (left right : Table)
    (old new : List EntryName) : Type 0 where
  pub stay : StayNamed old new
  pub all :
      (k : List ℕ) (a b : Entry) → HasEntry left k a → HasEntry right k b
      → AreTogether parts k a b ⊎ IsNamed new t k

-- the same of all tables
pub record AddsChanged (parts : TextSet) (first second : Config)
    (old new : List EntryName) : Type 0 where
  pub stay : StayNamed old new
  pub all :
      (t k : List ℕ) (a b : Entry) → HasEntry (entries_of first t) k a
      → HasEntry (entries_of second t) k b → AreTogether parts k a b ⊎ IsNamed new t k

-- the keys that both tables have are added, unless the entries there are so, where the table may refer to
-- another one
pub record AddsReferringOf (models : ModelSet) (to : List ℕ) (parts : TextSet) (t : List ℕ)
    (left right : Table) (old new : List EntryName) : Type 0 where
  pub stay : StayNamed old new
  pub all : may_refer models t to ≡ true → AddsChangedOf parts t left right old new

-- the same of all tables that may
pub record AddsReferring (models : ModelSet) (to : List ℕ) (parts : TextSet)
    (first second : Config) (old new : List EntryName) : Type 0 where
  pub stay : StayNamed old new
  pub all :
      (t k : List ℕ) (a b : Entry) → may_refer models t to ≡ true
      → HasEntry (entries_of first t) k a → HasEntry (entries_of second t) k b
      → AreTogether parts k a b ⊎ IsNamed new t k

-- the second configuration has the wants of the entries of the first that aren't named
abbrev pub HasOthers : ModelSet → Config → Config → List EntryName → Type 0
HasOthers models first second names =
    (w : Want) (p : Place) → HasWant models first w p
    → HasWant models second w p ⊎ IsNamed names p.table p.key

-- of the entries that aren't named both have the same wants
pub record AreDifferences (models : ModelSet) (first second : Config) (names : List EntryName)
    : Type 0 where
  pub of_first : HasOthers models first second names
  pub of_second : HasOthers models second first names

-- to what is listed the wants are added that the second configuration hasn't, of the entries of the first
-- at some positions
pub record Adds (models : ModelSet) (first second : Config) (Is : ℕ → ℕ → Type 0)
    (old new : List WantAt) : Type 0 where
  pub has :
      (w : Want) (p : Place) → IsListed new w p
      → IsListed old w p ⊎ (HasWant models first w p × (¬ HasWant models second w p))
  pub stay : (w : Want) (p : Place) → IsListed old w p → IsListed new w p
  pub all :
      (at : WantPlace) (w : Want) (p : Place) → Is at.table at.key
      → IsWantAt models first at w → IsPlaceAt first at p
      → HasWant models second w p ⊎ IsListed new w p

-- exactly the wants of the entry of those names are listed
pub record AreWantsOf (models : ModelSet) (config : Config) (t k : List ℕ)
    (listed : List WantAt) : Type 0 where
  pub each :
      (w : Want) (p : Place) → IsListed listed w p
      → HasWant models config w p × (p.table ≡ t) × (p.key ≡ k)
  pub all :
      (w : Want) (p : Place) → HasWant models config w p → p.table ≡ t → p.key ≡ k
      → IsListed listed w p

-- the same want at the same place is listed
abbrev pub IsSameListed : List WantAt → WantAt → Type 0
IsSameListed listed at = IsListed listed (want_of at.want) (place_of at)

-- to what is listed the wants of a list are added that another one lacks
pub record AddsLacking (listed others old new : List WantAt) : Type 0 where
  pub has :
      (w : Want) (p : Place) → IsListed new w p
      → IsListed old w p ⊎ (IsListed listed w p × (¬ IsListed others w p))
  pub stay : (w : Want) (p : Place) → IsListed old w p → IsListed new w p
  pub all :
      (w : Want) (p : Place) → IsListed listed w p → IsListed others w p ⊎ IsListed new w p

-- the entry is one of those that are named before an index
pub record IsOneOf (config : Config) (names : List EntryName) (n i j : ℕ) : Type 0 where
  pub index : ℕ
  pub before : index < n
  pub name : EntryName
  pub at : slice_get names index ≡ Some name
  pub entry : IsEntryAt config name.table.now name.key.now i j
