-- How long an input is.
use Rattle.std.specs.Prelude.{ℕ, ◌≤◌, length, ⊤}
use Rattle.host_core.specs.declared.host_calls.Input.{Input}
use Rattle.host_core.specs.declared.host_calls.Input.TheVariants.{Absent, TooBig, Bytes}

-- what is handed out of an input has at most that many bytes
abbrev pub IsWithin : ℕ → Input → Type 0
IsWithin limit Absent = ⊤
IsWithin limit TooBig = ⊤
IsWithin limit (Bytes bytes) = length bytes ≤ limit
