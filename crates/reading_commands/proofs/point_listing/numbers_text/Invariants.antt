use Rattle.std.proofs.Common.{◌≡◌, ◌++◌, drop, map}
use Rattle.checkpoints.specs.Answers.{numbered_view}
use Rattle.command_answers.specs.PointLines.{point_lines}
use Rattle.reading_commands.proofs.point_listing.numbers_text.Given as goal

-- what is there and the lines that are left make all lines
abbrev pub invariant-loop-numbered : goal.invariant-loop-numbered
invariant-loop-numbered l =
    point_lines (map numbered_view l.all) ≡ l.text.items ++ point_lines
    (map numbered_view (drop l.numbered-index l.all))
