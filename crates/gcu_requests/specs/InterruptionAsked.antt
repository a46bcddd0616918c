-- What `status` and `abandon` ask.
use Rattle.std.specs.Prelude.{List, ℕ, Option, Some, None, Result, Ok, Err}
use Rattle.host_core.specs.State.{State}
use Rattle.conf_doc.specs.declared.configuration.Config.{Config}
use Rattle.conf_store.specs.Applied.{applied}
use Rattle.conf_store.specs.Stored.{config_in}
use Rattle.conf_store.specs.declared.errors.StoredWhy.{StoredWhy}
use Rattle.gcu_output.specs.declared.statuses.Intent.{Intent}
use Rattle.gcu_output.specs.declared.statuses.Intent.TheVariants.{Absent, Whole, Broken}
use Rattle.gcu_inputs.specs.IntentAsked.{intent_asked, interrupted}
use Rattle.gcu_inputs.specs.Asking.{Asking, settles_first, follows, ◌>>>◌}
use Rattle.gcu_inputs.specs.StoredAsked.{stored_asked}
use Rattle.gcu_requests.specs.Request as request
use Rattle.gcu_requests.specs.Request.{Request}

-- a file that holds a configuration is whole
abbrev pub intent_holding : Result Config StoredWhy → Intent
intent_holding (Ok c) = Whole
intent_holding (Err why) = Broken

-- whether the file is there, and whether it is whole
abbrev pub intent_of : Option (List ℕ) → Intent
intent_of None = Absent
intent_of (Some bytes) = intent_holding (config_in bytes)

-- `status`: the state of that file, and how many step files are applied in the stored configuration
abbrev pub status_asked : State → Asking Request
status_asked s =
    stored_asked s >>> λ _.
    intent_asked s >>> λ found.
    follows (Ok (request.status (intent_of found) (applied s.files)))

-- `abandon`: the file is to be removed
abbrev pub abandon_asked : State → Asking Request
abandon_asked s =
    settles_first >>> λ _.
    interrupted s >>> λ _.
    follows (Ok request.abandon)
