use Rattle.std.proofs.Common.{codes}
use Rattle.gcu_demo.specs.Demo.{vlans_with}
use Rattle.gcu_output.specs.Lines.{line_feed}
use Rattle.command_answers.specs.Summary.{changes_with, counted}
use Rattle.reading_commands.proofs.SummaryTexts.{lines_joined}
use Rattle.reading_commands.proofs.demos.summary_lines.Goals as goal

-- the lines stand one behind the other
pub returns : goal.returns
returns c =
    rw (
      c.in_ok-push_count-4.ensures,
      c.in_ok-push_count-3.ensures,
      c.in_ok-push_count-2.ensures,
      c.in_ok-push_count.ensures,
      c.new-text.ensures.bytes,
    )
    (lines_joined (counted (codes "ports") c.args.ports) (counted (codes "vlans") (vlans_with c.args.ports))
    (counted (codes "changes") (changes_with c.args.ports))
    (counted (codes "steps") c.args.steps) line_feed)
