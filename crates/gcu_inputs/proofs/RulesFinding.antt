-- How the models and the rules file are found one after the other.
use Rattle.std.proofs.Common.{◌≡◌, ℕ, List, refl, subst, Option, Some, None, Result, Ok, Err, IfErr}
use Rattle.host_core.specs.Answers.{Gives}
use Rattle.host_core.specs.State.{State}
use Rattle.move_core.specs.RulesFile.{rules}
use Rattle.move_core.specs.declared.contexts.Ctx.{Ctx}
use Rattle.move_core.specs.declared.settings.Settings.{Settings}
use Rattle.yang_model.specs.ModelSets.{ModelSet}
use Rattle.gcu_output.specs.declared.outcomes.Outcome.{Outcome}
use Rattle.gcu_inputs.specs.ModelFiles.{bytes_asked, models_asked}
use Rattle.gcu_inputs.specs.Preparing.{Finds, RefusesAlways, refusal}
use Rattle.gcu_inputs.specs.RulesAsked.{ctx_asked, rules_answer, rules_limit, rules_path, settings_asked}
use Rattle.gcu_inputs.proofs.Finding.{first_refused, found_always, then_found}

abbrev self : {X : Type 0} → X → X
self x = x

-- ---- the rules file

-- there is no rules file
pub no_rules : (o : Option State) (path : List ℕ) (e : Outcome) → path ≡ rules_path
    → Finds {X = List ℕ} o self (Err e) (bytes_asked path rules_limit)
    → Finds {X = Settings} o self (Err e) settings_asked
no_rules None path e is h = tt
no_rules (Some s) path e is h =
    first_refused self self e (bytes_asked rules_path rules_limit s) _
    (subst (λ p. Finds {X = List ℕ} (Some s) self (Err e) (bytes_asked p rules_limit)) is h)

-- what the rules file gives
pub rules_found : (o : Option State) (path bytes : List ℕ) (r : Result Settings Outcome) → path ≡ rules_path
    → Finds o self (Ok bytes) (bytes_asked path rules_limit)
    → Gives self refusal r (rules_answer path (rules bytes)) → IfErr r RefusesAlways
    → Finds o self r settings_asked
rules_found None path bytes r is h gives always = tt
rules_found (Some s) path bytes r is h gives always =
    then_found self self bytes r (bytes_asked rules_path rules_limit s) _
    (subst (λ p. Finds (Some s) self (Ok bytes) (bytes_asked p rules_limit)) is h)
    (found_always self r (rules_answer rules_path (rules bytes)) _ (λ q same. same) (subst (λ p. Gives self refusal r (rules_answer p (rules bytes))) is gives) always)

-- ---- by what moves are judged

-- there are no models
pub no_ctx_models : (o : Option State) (e : Outcome) → Finds {X = ModelSet} o self (Err e) models_asked → Finds {X = Ctx} o self (Err e) ctx_asked
no_ctx_models None e h = tt
no_ctx_models (Some s) e h = first_refused self self e (models_asked s) _ h

-- there are no settings
pub no_ctx_settings : (o : Option State) (models : ModelSet) (e : Outcome) → Finds o self (Ok models) models_asked
    → Finds {X = Settings} o self (Err e) settings_asked → Finds {X = Ctx} o self (Err e) ctx_asked
no_ctx_settings None models e h f = tt
no_ctx_settings (Some s) models e h f =
    then_found self self models (Err e) (models_asked s) _ h (first_refused self self e (settings_asked s) _ f)

-- there are both
pub ctx_found : (o : Option State) (models : ModelSet) (settings : Settings) → Finds o self (Ok models) models_asked
    → Finds o self (Ok settings) settings_asked
    → Finds {X = Ctx} o self (Ok (record { models = models; settings = settings })) ctx_asked
ctx_found None models settings h f = tt
ctx_found (Some s) models settings h f =
    then_found self self models _ (models_asked s) _ h
    (then_found self self settings _ (settings_asked s) _ f (record { gives = refl; stands = tt }))
