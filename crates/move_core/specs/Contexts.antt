-- What a context says: its settings, and what its models say of configurations.
use Rattle.std.specs.Prelude.{◌≡◌, ℕ, List, [], ◌∷◌, Option, Some, None, option_map, option_and_then, slice_get, is_some, IsTrue}
use Rattle.conf_doc.specs.Pairs.{find}
use Rattle.conf_doc.specs.declared.configuration.Config.{Config}
use Rattle.conf_doc.specs.declared.configuration.Entry.{Entry}
use Rattle.conf_check.specs.Acceptance.{IsSatisfied}
use Rattle.conf_check.specs.Validity.{IsValid}
use Rattle.conf_check.specs.Wants.{Want, IsWantAt}
use Rattle.conf_check.specs.declared.want_iter.WantPlace.{WantPlace}
use Rattle.yang_model.specs.ModelSets.{ModelSet, table_named}
use Rattle.move_core.specs.Moves.{Place, IsDefined, list_at, step}
use Rattle.move_core.specs.Named.{HasNames}
use Rattle.move_core.specs.Rulebook.{Rulebook}
use Rattle.move_core.specs.declared.contexts.Ctx.{Ctx}
use Rattle.move_core.specs.declared.moves.Move.{Move}
use Rattle.move_core.specs.declared.settings.Settings.{Settings}

-- the table has a model
abbrev pub IsModelled : ModelSet → List ℕ → Type 0
IsModelled models t = IsTrue (is_some (table_named t models))

-- the name of a field by its position in the entry, where one is given
abbrev pub field_names : Entry → Option ℕ → Option (List (List ℕ))
field_names fields None = Some []
field_names fields (Some i) = option_map (λ f. f.0 ∷ []) (slice_get fields i)

-- the names of a place that is given by positions: of a part of a key the entry, of an item the field
abbrev pub names_of : Config → WantPlace → Option Place
names_of c at =
    option_and_then (λ t.
    option_and_then (λ e.
    option_map (λ f. t.0 ∷ e.0 ∷ f) (field_names e.1 at.field))
    (slice_get t.1 at.key)) (slice_get c at.table)

-- the index of a text, where it is an item of a list that stands at the place
abbrev pub item_at : Config → Place → ℕ → Option ℕ
item_at c p i = option_map (λ _. i) (list_at c p)

-- a text at the place has the want; an item of a list has an index
pub record HasWant (models : ModelSet) (c : Config) (p : Place) (item : Option ℕ) (want : Want)
    : Type 0 where
  pub at : WantPlace
  pub wanted : IsWantAt models c at want
  pub names : names_of c at ≡ Some p
  pub index : item_at c p at.item ≡ item

-- by what moves are judged in a context
abbrev pub rulebook : Ctx → Rulebook
rulebook ctx =
    record {
      settings = ctx.settings;
      IsModelled = IsModelled ctx.models;
      Want = Want;
      HasWant = HasWant ctx.models;
      IsSatisfied = λ c want. IsSatisfied ctx.models c want.target want.text;
      IsValid = IsValid ctx.models;
    }

-- a context of these models and settings
abbrev pub context : ModelSet → Settings → Ctx
context models settings = record { models = models; settings = settings }

-- the configurations agree on the tables without a model
abbrev pub AgreeElsewhere : Ctx → Config → Config → Type 0
AgreeElsewhere ctx a b = (t : List ℕ) → ¬ IsModelled ctx.models t → find t a ≡ find t b

-- ---- what calls ask

-- no name in the settings is empty
abbrev pub IsNamed : Ctx → Type 0
IsNamed ctx = HasNames ctx.settings

-- the configuration is valid by the models
abbrev pub IsValidIn : Ctx → Config → Type 0
IsValidIn ctx c = IsValid ctx.models c

-- the second configuration is what the move makes of the first
pub record IsResult (cur : Config) (m : Move) (next : Config) : Type 0 where
  pub defined : IsDefined cur m
  pub is : next ≡ step cur m
