-- The wants of an entry as they are gone through for one field.
use Rattle.std.specs.Prelude.{◌≡◌, ◌≢◌, ◌⊎◌, ℕ, List, [], ◌∷◌, Some}
use Rattle.conf_doc.specs.declared.configuration.Config.{Config}
use Rattle.conf_check.specs.Rows.{IsEntryAt}
use Rattle.conf_check.specs.WantRuns.{IsWantAhead}
use Rattle.conf_check.specs.Wants.{Want, IsWantAt}
use Rattle.conf_check.specs.declared.want_iter.WantIter.{WantIter}
use Rattle.conf_check.specs.declared.want_iter.WantPlace.{WantPlace}
use Rattle.move_core.specs.Contexts.{names_of}
use Rattle.move_core.specs.Generated.{HasNoWant}
use Rattle.move_core.specs.Rulebook.{Rulebook}
use Rattle.yang_model.specs.ModelSets.{ModelSet}

-- each want of the entry is ahead or isn't at the field, and no others are ahead
pub record AreElsewhere
    (asked : ModelSet) (c : Config) (t k f : List ℕ) (s : WantIter) : Type 0 where
  pub models : s.models.now ≡ asked
  pub config : s.config.now ≡ c
  pub rest :
      (p : WantPlace) (w : Want) → IsEntryAt c t k p.table p.key → IsWantAt asked c p w
      → (names_of c p ≢ Some (t ∷ k ∷ f ∷ [])) ⊎ IsWantAhead s p w
  pub within : (p : WantPlace) (w : Want) → IsWantAhead s p w → IsEntryAt c t k p.table p.key

-- no field of the entry has a want
abbrev pub AreFree : Rulebook → Config → List ℕ → List ℕ → Type 0
AreFree book goal t k = (f : List ℕ) → HasNoWant book goal (t ∷ k ∷ f ∷ [])
