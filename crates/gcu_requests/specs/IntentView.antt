-- How far a change is that was stopped, as the code keeps it.
use Rattle.std.specs.Prelude.{ℕ, Result, Ok, Err}
use Rattle.host_core.specs.State.{State}
use Rattle.conf_store.specs.Applied.{AreApplied}
use Rattle.gcu_output.specs.declared.outcomes.Outcome.{Outcome}
use Rattle.gcu_inputs.specs.Preparing.{FailsIn, StandsIn, refusal}
use Rattle.gcu_inputs.specs.StoredAsked.{stored_asked}
use Rattle.gcu_requests.specs.Request as request
use Rattle.gcu_requests.specs.Request.{Request}
use Rattle.gcu_requests.specs.declared.interruption.Status.{Status}

-- what is to be said
abbrev pub status_request : Status → Request
status_request s = request.status s.intent s.steps

-- how many step files are applied, or why the folder stands for no configuration
abbrev pub CountsIn : State → Result ℕ Outcome → Type 0
CountsIn s (Ok count) = AreApplied s.files count
CountsIn s (Err e) = FailsIn (refusal e) (stored_asked s) × StandsIn (stored_asked s) e
