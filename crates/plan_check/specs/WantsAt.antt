-- The wants at a place as they are handed out.
use Rattle.std.specs.Prelude.{◌≡◌, ◌≢◌, ◌⊎◌, ℕ, List, [], ◌∷◌, ◌++◌, Option, All, Contains}
use Rattle.conf_check.specs.Wants.{Want, want_of}
use Rattle.conf_check.specs.declared.want_iter.WantAt.{WantAt}
use Rattle.conf_doc.specs.declared.configuration.Config.{Config}
use Rattle.move_core.specs.Contexts.{HasWant, item_at}
use Rattle.move_core.specs.Moves.{Place}
use Rattle.plan_check.specs.Touching.{names_at}
use Rattle.yang_model.specs.ModelSets.{ModelSet}

-- a want is put at the end, where it stands at the place
abbrev pub GathersOne : Place → WantAt → List WantAt → List WantAt → Type 0
GathersOne p at old new =
    ((names_at at ≡ p) × (new ≡ old ++ at ∷ [])) ⊎ ((names_at at ≢ p) × (new ≡ old))

-- it is that want, of a text or of an item with that index
pub record IsThat (c : Config) (p : Place) (i : Option ℕ) (w : Want) (a : WantAt) : Type 0 where
  pub index : item_at c p a.item ≡ i
  pub want : want_of a.want ≡ w

-- a want is among those
pub record IsAmong (c : Config) (p : Place) (found : List WantAt) (i : Option ℕ) (w : Want)
    : Type 0 where
  pub at : WantAt
  pub there : Contains found at
  pub is : IsThat c p i w at

-- these are the wants at the place
pub record AreWantsAt (models : ModelSet) (c : Config) (p : Place) (found : List WantAt)
    : Type 0 where
  pub each : All (λ a. HasWant models c p (item_at c p a.item) (want_of a.want)) found
  pub all : (i : Option ℕ) (w : Want) → HasWant models c p i w → IsAmong c p found i w
