-- The referrers in a configuration: the places of the texts that have a want.
use Rattle.std.specs.Prelude.{◌≡◌, ◌≢◌, ℕ, List, Some, option_map}
use Rattle.std.specs.List.{All, AllPairs, Contains}
use denote.Ref.{Bor}
use Rattle.conf_doc.specs.declared.configuration.Config.{Config}
use Rattle.yang_model.specs.ModelSets.{ModelSet}
use Rattle.conf_check.specs.Rows.{IsEntryAt}
use Rattle.conf_check.specs.Wants.{Want, IsWantAt, field_name}
use Rattle.conf_check.specs.declared.want_iter.WantAt.{WantAt}
use Rattle.conf_check.specs.declared.want_iter.WantPlace.{WantPlace}
use Rattle.ref_index.specs.declared.places.Place.{Place}

-- a text without its borrow
abbrev pub name_of : Bor (List ℕ) → List ℕ
name_of s = s.now

-- the place of a want as it is handed out
abbrev pub place_of : WantAt → Place
place_of at =
    record {
      table = at.table.now;
      key = at.key.now;
      field = option_map name_of at.field;
      item = at.item;
    }

-- the place stands at those positions of the configuration
pub record IsPlaceAt (config : Config) (position : WantPlace) (place : Place) : Type 0 where
  pub entry : IsEntryAt config place.table place.key position.table position.key
  pub field : field_name entry.fields position.field ≡ Some place.field
  pub item : place.item ≡ position.item

-- the text at the place has that want
pub record HasWant (models : ModelSet) (config : Config) (want : Want) (place : Place)
    : Type 0 where
  pub position : WantPlace
  pub at : IsPlaceAt config position place
  pub wanted : IsWantAt models config position want

-- the want of a text that is to stand at a part of the keys of a shape of a table
abbrev pub want_for : List ℕ → ℕ → ℕ → List ℕ → Want
want_for table shape part text =
    record { target = record { table = table; shape = shape; part = part }; text = text }

-- exactly the places of the configuration that have that want, each once
pub record AreReferrers (models : ModelSet) (config : Config) (want : Want)
    (places : List Place) : Type 0 where
  pub each : All (HasWant models config want) places
  pub all : (place : Place) → HasWant models config want place → Contains places place
  pub once : AllPairs (λ a b. a ≢ b) places

-- the models and the configuration of an index
pub record Indexed : Type 0 where
  pub models : ModelSet
  pub config : Config
