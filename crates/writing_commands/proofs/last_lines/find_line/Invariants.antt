use Rattle.std.proofs.Common.{◌≡◌, drop}
use Rattle.writing_commands.specs.FaultLines.{found}
use Rattle.writing_commands.proofs.last_lines.find_line.Given as goal

-- it isn't among the lines so far
abbrev pub invariant-loop-line : goal.invariant-loop-line
invariant-loop-line l = found l.service l.lines ≡ found l.service (drop l.line-index l.lines)
