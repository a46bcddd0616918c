-- What `check` asks: the models, the stored configuration, and whether that is valid.
use Rattle.std.specs.Prelude.{◌≡◌, ℕ, List, Result, Ok, Err}
use Rattle.host_core.specs.State.{State}
use Rattle.conf_doc.specs.declared.configuration.Config.{Config}
use Rattle.yang_model.specs.ModelSets.{ModelSet}
use Rattle.conf_check.specs.Validity.{Breach, IsBreach, IsBreachBefore, IsValid}
use Rattle.conf_check.specs.declared.violations.RuleName.{RuleName}
use Rattle.gcu_requests.specs.Places.{IsPlaceOf}
use Rattle.gcu_output.specs.declared.outcomes.Outcome.{Outcome}
use Rattle.gcu_output.specs.declared.outcomes.Outcome.TheVariants.{CurrentInvalid}
use Rattle.gcu_inputs.specs.Asking.{Asking, follows_by, ◌>>>◌}
use Rattle.gcu_inputs.specs.IntentAsked.{uninterrupted}
use Rattle.gcu_inputs.specs.ModelFiles.{models_asked}
use Rattle.gcu_inputs.specs.StoredAsked.{stored_asked}
use Rattle.gcu_requests.specs.Request.{Request, check}

-- a violation before which there is no other one
pub record IsFirstBreach (models : ModelSet) (config : Config) (b : Breach) : Type 0 where
  pub broken : IsBreach models config b
  pub first : (a : Breach) → IsBreachBefore a b → ¬ IsBreach models config a

-- the first violation, told by an answer with its place and its rule
pub record IsInvalidAs (answer : List ℕ → RuleName → Outcome) (models : ModelSet) (config : Config)
    (e : Outcome) : Type 0 where
  pub breach : Breach
  pub first : IsFirstBreach models config breach
  pub place : List ℕ
  pub at : IsPlaceOf models config breach place
  pub told : e ≡ answer place breach.rule

-- a valid stored configuration, or its first violation
abbrev pub IsJudged : ModelSet → Config → Result Request Outcome → Type 0
IsJudged models config (Ok request) = IsValid models config × (request ≡ check)
IsJudged models config (Err e) = IsInvalidAs CurrentInvalid models config e

-- whether the stored configuration is valid: the models are read before it
abbrev pub judging_asked : State → Asking Request
judging_asked s =
    models_asked s >>> λ models.
    stored_asked s >>> λ start.
    follows_by (IsJudged models start)

-- `check`: no change is under way
abbrev pub check_asked : State → Asking Request
check_asked s = uninterrupted s >>> λ _. judging_asked s
