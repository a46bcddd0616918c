-- What is noted of a command that ran.
use Rattle.std.specs.Prelude.{ℕ, ◌-◌, ◌==◌, if◌then◌else◌}
use Rattle.std.specs.FinMap.{from_entries}
use Rattle.host_core.specs.Counts.{last_count}
use Rattle.host_core.specs.State.{Files}
use Rattle.command_runs.specs.declared.stops.Ran.{Ran}

-- the files that it found
abbrev pub found : Ran → Files
found ran = from_entries ran.before

-- by how much a count rose, or 1 where it is at its last value
abbrev pub rise : (before after : ℕ) → ℕ
rise before after = if after == last_count then 1 else after - before
