-- What a command asks of its host for a patch, and what the patch makes of a configuration.
use Rattle.std.specs.Prelude.{ℕ, List, Result, Ok, Err}
use Rattle.host_core.specs.Inputs.{input_of}
use Rattle.host_core.specs.State.{State}
use Rattle.host_core.specs.declared.host_calls.Input.{Input}
use Rattle.host_core.specs.declared.host_calls.Input.TheVariants.{Absent, TooBig as longer, Bytes}
use Rattle.conf_doc.specs.Configuration.{tree}
use Rattle.conf_doc.specs.Document.{Document}
use Rattle.conf_doc.specs.Shaping.{shaping}
use Rattle.conf_doc.specs.declared.configuration.Config.{Config}
use Rattle.conf_doc.specs.declared.errors.ShapeError.{ShapeError}
use Rattle.conf_doc.specs.declared.errors.ShapeError.TheVariants as shape
use Rattle.patch_core.specs.Apply.{apply}
use Rattle.patch_core.specs.Operation.{Operation}
use Rattle.patch_core.specs.Reading.{patch}
use Rattle.patch_core.specs.declared.errors.ApplyError.{ApplyError}
use Rattle.patch_core.specs.declared.errors.ApplyError.TheVariants as failed
use Rattle.patch_core.specs.declared.errors.PatchError.{PatchError}
use Rattle.patch_core.specs.declared.errors.PatchError.TheVariants as bad
use Rattle.gcu_output.specs.declared.outcomes.Outcome.{Outcome}
use Rattle.gcu_output.specs.declared.outcomes.Outcome.TheVariants.{Memory, NoInput, TooBig, BadJson, BadPatch, PatchFailed, TargetShape}
use Rattle.gcu_inputs.specs.Asking.{Asking, an_input, asks}

-- ---- the patch

-- how many bytes a patch may have
abbrev pub patch_limit : ℕ
patch_limit = 1048576

abbrev patch_refusal : List ℕ → PatchError → Outcome
patch_refusal path bad.BadJson = BadJson path
patch_refusal path (bad.BadPatch index why) = BadPatch index why
patch_refusal path bad.Memory = Memory

-- a text that is no patch is refused
abbrev pub patch_answer : List ℕ
    → Result (List Operation) PatchError → Result (List Operation) Outcome
patch_answer path (Ok ops) = Ok ops
patch_answer path (Err e) = Err (patch_refusal path e)

-- the operations that were found at a path
abbrev pub patch_in : List ℕ → Input → Result (List Operation) Outcome
patch_in path Absent = Err (NoInput path)
patch_in path longer = Err (TooBig path patch_limit)
patch_in path (Bytes bytes) = patch_answer path (patch bytes)

-- the operations that the input at a path holds
abbrev pub patch_asked : List ℕ → State → Asking (List Operation)
patch_asked path s = asks an_input (patch_in path (input_of s path patch_limit))

-- ---- the target

-- the configuration that was shaped, or a refusal with the place of the fault
abbrev pub target_shape : Result Config ShapeError → Result Config Outcome
target_shape (Ok c) = Ok c
target_shape (Err (shape.Shape place)) = Err (TargetShape place)
target_shape (Err shape.Memory) = Err Memory

-- a patch that fails, or leaves no configuration, is refused
abbrev pub target_in : Result Document ApplyError → Result Config Outcome
target_in (Ok d) = target_shape (shaping d)
target_in (Err (failed.Failed index why)) = Err (PatchFailed index why)
target_in (Err failed.Memory) = Err Memory

-- the configuration after the operations
abbrev pub target : List Operation → Config → Result Config Outcome
target ops start = target_in (apply ops (tree start))
