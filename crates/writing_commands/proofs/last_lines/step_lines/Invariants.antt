use Rattle.std.proofs.Common.{◌≡◌, take}
use Rattle.change_apply.specs.Change.{restarts_of}
use Rattle.writing_commands.specs.FaultLines.{lines_for}
use Rattle.writing_commands.proofs.last_lines.step_lines.Given as goal

-- the lines of the first services
abbrev pub invariant-loop-i : goal.invariant-loop-i
invariant-loop-i l = l.lines ≡ lines_for l.step (restarts_of l.settings (take l.i l.services))
