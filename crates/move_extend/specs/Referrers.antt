-- What is left without what it refers to.
use Rattle.std.specs.Prelude.{◌≡◌, ℕ, List, ◌∷◌, Some, option_map}
use Rattle.std.specs.Option.{option_to_list}
use Rattle.conf_check.specs.Acceptance.{IsSatisfied}
use Rattle.conf_check.specs.Wants.{Want, IsWantAt}
use Rattle.conf_check.specs.declared.want_iter.WantAt.{WantAt}
use Rattle.conf_check.specs.declared.want_iter.WantPlace.{WantPlace}
use Rattle.conf_doc.specs.declared.configuration.Config.{Config}
use Rattle.yang_model.specs.ModelSets.{ModelSet}
use Rattle.move_core.specs.Contexts.{item_at, names_of}
use Rattle.move_core.specs.Extensions.{removal}
use Rattle.move_core.specs.Moves.{Place}
use Rattle.move_core.specs.declared.moves.Move.{Move}

-- a key of the table is wanted that isn't there
abbrev pub IsBroken : ModelSet → Config → List ℕ → Want → Type 0
IsBroken models next t want =
    (want.target.table ≡ t) × ¬ IsSatisfied models next want.target want.text

-- the names of the place of a want as they are handed out
abbrev pub place_of : WantAt → Place
place_of at = at.table.now ∷ at.key.now ∷ option_to_list (option_map (λ f. f.now) at.field)

-- the removal of what stands at a place, or where a list stands there of its item of that number
abbrev pub removal_at : Config → Place → ℕ → Move
removal_at c p i = removal p (item_at c p i)

-- that of what has a want that is handed out
abbrev pub removal_of : Config → WantAt → Move
removal_of c at = removal_at c (place_of at) at.item

-- what has some such want is removed
pub record GivesRemovals (models : ModelSet) (cur next : Config) (t : List ℕ) (x : Move)
    : Type 0 where
  pub at : WantPlace
  pub want : Want
  pub wanted : IsWantAt models cur at want
  pub broken : IsBroken models next t want
  pub place : Place
  pub names : names_of cur at ≡ Some place
  pub move : x ≡ removal_at cur place at.item
