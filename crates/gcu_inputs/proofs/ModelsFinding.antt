-- How the texts of models and the models are found one after the other.
use Rattle.std.proofs.Common.{List, Option, Some, None, Result, Ok, Err, IfErr}
use Rattle.host_core.specs.State.{State}
use Rattle.yang_model.specs.ModelSets.{ModelSet}
use Rattle.gcu_output.specs.declared.outcomes.Outcome.{Outcome}
use Rattle.gcu_inputs.specs.ModelFiles.{AreModels, Text, models_asked, texts_asked}
use Rattle.gcu_inputs.specs.Preparing.{Finds, IsRightBy, RefusesAlways}
use Rattle.gcu_inputs.proofs.Finding.{first_refused, then_found, found_told}

abbrev self : {X : Type 0} → X → X
self x = x

-- ---- the models

-- there are no texts
pub no_texts : (o : Option State) (e : Outcome) → Finds {X = List Text} o self (Err e) texts_asked → Finds {X = ModelSet} o self (Err e) models_asked
no_texts None e h = tt
no_texts (Some s) e h = first_refused self self e (texts_asked s) _ h

-- what the texts give
pub models_read : (o : Option State) (texts : List Text) (r : Result ModelSet Outcome)
    → Finds o self (Ok texts) texts_asked
    → IsRightBy self r (AreModels texts) → IfErr r RefusesAlways → Finds o self r models_asked
models_read None texts r h told always = tt
models_read (Some s) texts r h told always =
    then_found self self texts r (texts_asked s) _ h (found_told self r (AreModels texts) told always)
