-- The wants that stand in what a move changes.
use Rattle.std.specs.Prelude.{◌≡◌, ℕ, Bool, true, false, ◌∷◌, Option, Some, option_map}
use Rattle.std.specs.Option.{option_to_list}
use Rattle.conf_check.specs.Acceptance.{IsSatisfied}
use Rattle.conf_check.specs.Wants.{Want}
use Rattle.conf_check.specs.declared.want_iter.WantAt.{WantAt}
use Rattle.conf_doc.specs.declared.configuration.Config.{Config}
use Rattle.move_core.specs.Contexts.{HasWant, item_at}
use Rattle.move_core.specs.Moves.{Place}
use Rattle.move_core.specs.Rules.{IsNewPlace, IsOldPlace}
use Rattle.move_core.specs.declared.moves.Move.{Move}
use Rattle.yang_model.specs.ModelSets.{ModelSet}

-- the names of the place of a want as it is handed out: its table, its key, and its field where it stands in one
abbrev pub names_at : WantAt → Place
names_at at = at.table.now ∷ at.key.now ∷ option_to_list (option_map (λ f. f.now) at.field)

-- the index of the item of a list that the want stands in
abbrev pub index_at : Config → WantAt → Option ℕ
index_at c at = item_at c (names_at at) at.item

-- the want stands in the item at an index of the list at a place
abbrev pub IsInItem : Config → WantAt → Place → ℕ → Type 0
IsInItem c at place index = (names_at at ≡ place) × (index_at c at ≡ Some index)

-- the place is one that the move changes: in the configuration after it, or before it
abbrev pub IsTouched : Move → Bool → Place → Option ℕ → Type 0
IsTouched m true p item = IsNewPlace m p item
IsTouched m false p item = IsOldPlace m p item

-- the want stands at such a place
abbrev pub Touches : Move → Bool → Config → WantAt → Type 0
Touches m after c at = IsTouched m after (names_at at) (index_at c at)

-- the wants of a configuration at such places are satisfied in the other one
abbrev pub WantsHold : ModelSet → (Place → Option ℕ → Type 0) → Config → Config → Type 0
WantsHold models Touched c other =
    (p : Place) (item : Option ℕ) (w : Want) → Touched p item → HasWant models c p item w
    → IsSatisfied models other w.target w.text
