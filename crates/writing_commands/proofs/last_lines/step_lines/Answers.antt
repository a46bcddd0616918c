use Rattle.std.proofs.Common.{get_or, refl, ◌∙◌}
use Rattle.writing_commands.proofs.FaultTexts.{at_index, lines_next}
use Rattle.writing_commands.proofs.last_lines.step_lines.Goals as goal

pub loop-i-preserved : goal.loop-i-preserved
loop-i-preserved c =
    c.in_ok-push.ensures.ok
    ∙ lines_next c.args.settings.now c.args.step c.args.services.now c.loop-i.i
    (get_or c.args.services.now c.loop-i.i 0) c.at.result.now c.in_ok-line.line c.as_str-name.result.now c.loop-i.lines
    (at_index c.args.services.now c.loop-i.i (get_or c.args.services.now c.loop-i.i 0) 0 c.loop-i-test.true refl)
    c.at.ensures c.as_str-name.ensures.text c.in_ok-line.ensures c.loop-i.invariant
