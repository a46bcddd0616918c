use Rattle.std.proofs.Common.{◌≡◌}
use Rattle.writing_commands.specs.FaultLines.{disk_lines}
use Rattle.writing_commands.proofs.last_lines.disk_lines.Given as goal

-- the lines so far
abbrev pub invariant-loop-step : goal.invariant-loop-step
invariant-loop-step l = l.lines ≡ disk_lines l.step
