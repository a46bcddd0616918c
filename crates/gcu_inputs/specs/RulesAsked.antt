-- What a command that plans asks of its host for the rules file, and with the models for what moves are
-- judged by.
use Rattle.std.specs.Prelude.{ℕ, List, codes, Result, Ok, Err}
use Rattle.host_core.specs.State.{State}
use Rattle.move_core.specs.RulesFile.{rules}
use Rattle.move_core.specs.declared.contexts.Ctx.{Ctx}
use Rattle.move_core.specs.declared.errors.RulesError.{RulesError}
use Rattle.move_core.specs.declared.errors.RulesError.TheVariants as wrong
use Rattle.move_core.specs.declared.settings.Settings.{Settings}
use Rattle.gcu_output.specs.declared.outcomes.Outcome.{Outcome}
use Rattle.gcu_output.specs.declared.outcomes.Outcome.TheVariants.{Memory, BadJson, BadRules}
use Rattle.gcu_inputs.specs.Asking.{Asking, follows, ◌>>>◌}
use Rattle.gcu_inputs.specs.ModelFiles.{bytes_asked, models_asked}

-- where the rules file is found
abbrev pub rules_path : List ℕ
rules_path = codes "rules.json"

-- how many bytes it may have
abbrev pub rules_limit : ℕ
rules_limit = 1048576

-- bytes that are no rules file are refused
abbrev pub rules_answer : List ℕ → Result Settings RulesError → Result Settings Outcome
rules_answer path (Ok settings) = Ok settings
rules_answer path (Err wrong.BadJson) = Err (BadJson path)
rules_answer path (Err (wrong.Bad why)) = Err (BadRules why)
rules_answer path (Err wrong.Memory) = Err Memory

-- the settings in the rules file
abbrev pub settings_asked : State → Asking Settings
settings_asked s =
    bytes_asked rules_path rules_limit s >>> λ bytes.
    follows (rules_answer rules_path (rules bytes))

-- the models, and then the settings
abbrev pub ctx_asked : State → Asking Ctx
ctx_asked s =
    models_asked s >>> λ models.
    settings_asked s >>> λ settings.
    follows (Ok (record { models = models; settings = settings }))
