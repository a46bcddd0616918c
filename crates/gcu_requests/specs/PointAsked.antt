-- What a command asks of its host for a checkpoint.
use Rattle.std.specs.Prelude.{ℕ, List, if◌then◌else◌, Option, Some, None, Result, Ok, Err}
use Rattle.std.specs.FinMap.{get}
use Rattle.host_core.specs.State.{State}
use Rattle.conf_doc.specs.declared.configuration.Config.{Config}
use Rattle.checkpoints.specs.Names.{is_good_name}
use Rattle.checkpoints.specs.Points.{Held, points}
use Rattle.gcu_output.specs.declared.outcomes.Outcome.{Outcome}
use Rattle.gcu_output.specs.declared.outcomes.Outcome.TheVariants.{NoCheckpoint, BadName}
use Rattle.gcu_output.specs.declared.outcomes.PointWhy.TheVariants as why
use Rattle.gcu_inputs.specs.Asking.{Asking, a_file, asks}

-- a name that no checkpoint has is refused
abbrev pub name_answer : List ℕ → Result (List ℕ) Outcome
name_answer name = if is_good_name name then Ok name else Err (BadName name)

-- a checkpoint that isn't there, or holds no configuration, is refused
abbrev pub held_answer : List ℕ → Option Held → Result Config Outcome
held_answer name None = Err (NoCheckpoint name why.Absent)
held_answer name (Some None) = Err (NoCheckpoint name why.NotConfig)
held_answer name (Some (Some config)) = Ok config

-- the configuration that the checkpoint of a name holds
abbrev pub held_asked : List ℕ → State → Asking Config
held_asked name s = asks a_file (held_answer name (get (points s.files) name))
