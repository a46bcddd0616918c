use Rattle.std.proofs.Common.{ap, ◌∙◌, take_all, arith}
use Rattle.checkpoints.specs.MigrationLines.{lines_of}
use Rattle.checkpoints.proofs.PutFiles.{line_more}
use Rattle.checkpoints.proofs.migration_texts.migration_lines.Goals as goal

pub loop-i-preserved : goal.loop-i-preserved
loop-i-preserved c = record {
  lines =
      line_more c.args.migration.now c.loop-i.i c.name_at.result.now c.in_ok-line.line c.loop-i.lines c.push.new.self (omega arith)
      c.name_at.ensures c.in_ok-line.ensures c.loop-i.invariant.lines c.in_ok-push.ensures.ok;
}

pub returns : goal.returns
returns c = c.loop-i.invariant.lines ∙ ap lines_of (take_all c.loop-i.i c.args.migration.now (omega arith))
