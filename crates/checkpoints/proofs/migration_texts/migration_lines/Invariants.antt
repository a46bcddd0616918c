use Rattle.std.proofs.Common.{◌≡◌, take}
use Rattle.checkpoints.specs.MigrationLines.{lines_of}
use Rattle.checkpoints.proofs.migration_texts.migration_lines.Given as goal

-- the lines of the first i
abbrev pub invariant-loop-i : goal.invariant-loop-i
invariant-loop-i l = record { lines : l.lines ≡ lines_of (take l.i l.migration) }
