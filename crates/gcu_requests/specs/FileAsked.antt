-- What a command asks of its host for the configuration in an input.
use Rattle.std.specs.Prelude.{ℕ, List, Result, Ok, Err}
use Rattle.host_core.specs.Answers.{◌>>=◌}
use Rattle.host_core.specs.State.{State}
use Rattle.conf_doc.specs.Document.{Document}
use Rattle.conf_doc.specs.Reading.{reading}
use Rattle.conf_doc.specs.Shaping.{shaping}
use Rattle.conf_doc.specs.declared.configuration.Config.{Config}
use Rattle.conf_doc.specs.declared.errors.ReadError.{ReadError}
use Rattle.conf_doc.specs.declared.errors.ReadError.TheVariants as read
use Rattle.conf_doc.specs.declared.errors.ShapeError.{ShapeError}
use Rattle.conf_doc.specs.declared.errors.ShapeError.TheVariants as shape
use Rattle.gcu_output.specs.declared.outcomes.Outcome.{Outcome}
use Rattle.gcu_output.specs.declared.outcomes.Outcome.TheVariants.{Memory, BadJson, BadConfig}
use Rattle.gcu_inputs.specs.Asking.{Asking, follows, ◌>>>◌}
use Rattle.gcu_inputs.specs.ModelFiles.{bytes_asked}

-- how many bytes it may have
abbrev pub file_limit : ℕ
file_limit = 4194304

-- a text that is no document is refused, and so is the first number, true, false or null in it
abbrev pub document_answer : List ℕ → Result Document ReadError → Result Document Outcome
document_answer path (Ok d) = Ok d
document_answer path (Err read.BadJson) = Err (BadJson path)
document_answer path (Err (read.BadKind place)) = Err (BadConfig path place)
document_answer path (Err read.Memory) = Err Memory

-- the first node of a wrong shape or with an empty name is refused
abbrev pub config_answer : List ℕ → Result Config ShapeError → Result Config Outcome
config_answer path (Ok c) = Ok c
config_answer path (Err (shape.Shape place)) = Err (BadConfig path place)
config_answer path (Err shape.Memory) = Err Memory

-- the configuration that the bytes hold which were found at a path
abbrev pub config_found : List ℕ → List ℕ → Result Config Outcome
config_found path bytes =
    document_answer path (reading bytes) >>= λ d.
    config_answer path (shaping d)

-- the configuration that the input at a path holds
abbrev pub file_asked : List ℕ → State → Asking Config
file_asked path s =
    bytes_asked path file_limit s >>> λ bytes.
    follows (config_found path bytes)
