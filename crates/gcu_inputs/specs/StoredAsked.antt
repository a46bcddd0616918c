-- The configuration that the folder stands for, as a command asks for it.
use Rattle.std.specs.Prelude.{Result, Ok, Err}
use Rattle.host_core.specs.State.{State}
use Rattle.conf_doc.specs.declared.configuration.Config.{Config}
use Rattle.conf_store.specs.Stored.{stored}
use Rattle.conf_store.specs.declared.errors.StoredWhy.{StoredWhy}
use Rattle.gcu_output.specs.declared.outcomes.Outcome.{Outcome}
use Rattle.gcu_output.specs.declared.outcomes.Outcome.TheVariants.{BadStored}
use Rattle.gcu_inputs.specs.Asking.{Asking, a_file, asks}

-- a folder that stands for none is refused
abbrev pub stored_answer : Result Config StoredWhy → Result Config Outcome
stored_answer (Ok c) = Ok c
stored_answer (Err why) = Err (BadStored why)

-- the configuration that the folder stands for
abbrev pub stored_asked : State → Asking Config
stored_asked s = asks a_file (stored_answer (stored s.files))
