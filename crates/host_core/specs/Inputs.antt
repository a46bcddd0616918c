-- What a host that tells its inputs hands out.
use Rattle.std.specs.Prelude.{ℕ, List, length, nat_lt, if◌then◌else◌, Option, Some, None}
use Rattle.std.specs.FinMap.{get}
use Rattle.host_core.specs.State.{State}
use Rattle.host_core.specs.declared.host_calls.Input.{Input}
use Rattle.host_core.specs.declared.host_calls.Input.TheVariants.{Absent, TooBig, Bytes}

-- at most that many bytes
abbrev pub within : ℕ → Option (List ℕ) → Input
within limit None = Absent
within limit (Some bytes) = if nat_lt limit (length bytes) then TooBig else Bytes bytes

-- an input of a state, of at most that many bytes
abbrev pub input_of : State → List ℕ → ℕ → Input
input_of s path limit = within limit (get s.inputs path)
