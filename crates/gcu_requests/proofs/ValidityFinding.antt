-- How models, the stored configuration and its validity are found one after the other.
use Rattle.std.proofs.Common.{Option, Some, None, Result, Ok, Err, IfErr}
use Rattle.host_core.specs.State.{State}
use Rattle.conf_doc.specs.declared.configuration.Config.{Config}
use Rattle.yang_model.specs.ModelSets.{ModelSet}
use Rattle.gcu_output.specs.declared.outcomes.Outcome.{Outcome}
use Rattle.gcu_inputs.specs.ModelFiles.{models_asked}
use Rattle.gcu_inputs.specs.Preparing.{Finds, IsRightBy, RefusesAlways}
use Rattle.gcu_inputs.specs.StoredAsked.{stored_asked}
use Rattle.gcu_requests.specs.Checking.{IsJudged, judging_asked}
use Rattle.gcu_requests.specs.Request as request
use Rattle.gcu_inputs.proofs.Finding.{first_refused, then_found, found_told}

abbrev self : {X : Type 0} → X → X
self x = x

-- ---- the check

abbrev pub check_of : {X : Type 0} → X → request.Request
check_of x = request.check

-- there are no models
pub no_models : (o : Option State) (e : Outcome) → Finds {X = ModelSet} o self (Err e) models_asked
    → Finds {X = Config} o check_of (Err e) judging_asked
no_models None e h = tt
no_models (Some s) e h = first_refused self check_of e (models_asked s) _ h

-- the folder stands for no configuration
pub no_config : (o : Option State) (models : ModelSet) (e : Outcome) → Finds o self (Ok models) models_asked
    → Finds {X = Config} o self (Err e) stored_asked → Finds {X = Config} o check_of (Err e) judging_asked
no_config None models e h f = tt
no_config (Some s) models e h f =
    then_found self check_of models (Err e) (models_asked s) _ h (first_refused self check_of e (stored_asked s) _ f)

-- what is said of the configuration
pub judged : (o : Option State) (models : ModelSet) (config : Config) (r : Result Config Outcome)
    → Finds o self (Ok models) models_asked
    → Finds o self (Ok config) stored_asked → IsRightBy check_of r (IsJudged models config) → IfErr r RefusesAlways
    → Finds o check_of r judging_asked
judged None models config r h f told always = tt
judged (Some s) models config r h f told always =
    then_found self check_of models r (models_asked s) _ h
    (then_found self check_of config r (stored_asked s) _ f (found_told check_of r (IsJudged models config) told
    always))
