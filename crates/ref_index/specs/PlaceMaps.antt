-- Maps from wants to lists of places.
use Rattle.std.specs.Prelude.{◌≡◌, ◌≢◌, ◌⊎◌, Bool, ◌&&◌, nat_eq, List, []}
use Rattle.std.specs.List.{AllPairs, Contains, find}
use Rattle.std.specs.Option.{option_map_or}
use Rattle.std.specs.Str.{bytes_eq}
use Rattle.indexmap.specs.IndexMap.{get_by_text}
use Rattle.yang_model.specs.ModelSets.{ModelSet}
use Rattle.yang_types.specs.declared.types.Target.{Target}
use Rattle.conf_doc.specs.declared.configuration.Config.{Config}
use Rattle.conf_check.specs.Wants.{Want, want_of}
use Rattle.conf_check.specs.declared.want_iter.WantAt.{WantAt}
use Rattle.ref_index.specs.Places.{with_place, without_place}
use Rattle.ref_index.specs.Referrers.{AreReferrers, HasWant, place_of}
use Rattle.ref_index.specs.declared.leaf_group.Group.{Group}
use Rattle.ref_index.specs.declared.place_maps.PlaceMap.{PlaceMap}
use Rattle.ref_index.specs.declared.places.Place.{Place}

-- the group is that of a leaf
abbrev pub is_for : Target → Group → Bool
is_for t g =
    bytes_eq t.table g.target.table && nat_eq t.shape g.target.shape && nat_eq t.part g.target.part

-- the places of the group of a leaf, none where it has none
abbrev pub places_in : List Group → Target → List Place
places_in groups t = option_map_or (λ g. g.places.items) (find (is_for t) groups) []

-- the places that have a want
abbrev pub places_at : PlaceMap → Want → List Place
places_at m w = option_map_or (λ gs. places_in gs.items w.target) (get_by_text m.by_text w.text) []

-- the list of one argument is what f makes of it, those of others stay
pub record ChangesAt {A : Type 0} (f : List Place → List Place) (a : A)
    (old new : A → List Place) : Type 0 where
  pub here : new a ≡ f (old a)
  pub others : (b : A) → b ≢ a → new b ≡ old b

-- the place of a want is put to the group of its leaf
abbrev pub PutsIn : WantAt → List Group → List Group → Type 0
PutsIn at old new =
    ChangesAt (with_place (place_of at)) (want_of at.want).target (places_in old) (places_in new)

-- it is taken out there
abbrev pub TakesIn : WantAt → List Group → List Group → Type 0
TakesIn at old new =
    ChangesAt (without_place (place_of at)) (want_of at.want).target (places_in old) (places_in new)

-- the same places for each leaf
abbrev pub KeepsIn : List Group → List Group → Type 0
KeepsIn old new = (t : Target) → places_in new t ≡ places_in old t

-- it is put to the places of its want
abbrev pub Puts : WantAt → PlaceMap → PlaceMap → Type 0
Puts at old new =
    ChangesAt (with_place (place_of at)) (want_of at.want) (places_at old) (places_at new)

-- it is taken out there
abbrev pub Takes : WantAt → PlaceMap → PlaceMap → Type 0
Takes at old new =
    ChangesAt (without_place (place_of at)) (want_of at.want) (places_at old) (places_at new)

-- the same places for each want
abbrev pub HasSame : PlaceMap → PlaceMap → Type 0
HasSame old new = (w : Want) → places_at new w ≡ places_at old w

-- the map of the wants of a configuration
abbrev pub IsMapOf : ModelSet → Config → PlaceMap → Type 0
IsMapOf models config m = (w : Want) → AreReferrers models config w (places_at m w)

-- the place and its want are listed
pub record IsListed (listed : List WantAt) (want : Want) (place : Place) : Type 0 where
  pub at : WantAt
  pub there : Contains listed at
  pub wants : want ≡ want_of at.want
  pub stands : place ≡ place_of at

-- no place occurs twice
abbrev pub AreOnce : PlaceMap → Type 0
AreOnce m = (w : Want) → AllPairs (λ a b. a ≢ b) (places_at m w)

-- the listed wants of the first configuration are those that the second hasn't
pub record AreMissing (models : ModelSet) (first second : Config) (found : List WantAt)
    : Type 0 where
  pub has : (w : Want) (p : Place) → IsListed found w p → HasWant models first w p
  pub lacks : (w : Want) (p : Place) → IsListed found w p → ¬ HasWant models second w p
  pub all :
      (w : Want) (p : Place) → HasWant models first w p
      → HasWant models second w p ⊎ IsListed found w p

-- the places of all listed wants are taken out
pub record TakesAll (listed : List WantAt) (old new : PlaceMap) : Type 0 where
  pub rest :
      (w : Want) (p : Place) → Contains (places_at new w) p
      → Contains (places_at old w) p × (¬ IsListed listed w p)
  pub stay :
      (w : Want) (p : Place) → Contains (places_at old w) p → ¬ IsListed listed w p
      → Contains (places_at new w) p
  pub once : AreOnce old → AreOnce new

-- some are put to those that are there
pub record PutsSome (listed : List WantAt) (old new : PlaceMap) : Type 0 where
  pub more :
      (w : Want) (p : Place) → Contains (places_at new w) p
      → Contains (places_at old w) p ⊎ IsListed listed w p
  pub stay : (w : Want) (p : Place) → Contains (places_at old w) p → Contains (places_at new w) p
  pub once : AreOnce old → AreOnce new

-- all are
pub record PutsAll (listed : List WantAt) (old new : PlaceMap) : Type 0 where
  pub some : PutsSome listed old new
  pub all : (w : Want) (p : Place) → IsListed listed w p → Contains (places_at new w) p
