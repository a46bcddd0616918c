use Rattle.std.proofs.Common.{map}
use Rattle.std.specs.List.{flat_map}
use Rattle.yang_text.specs.Statements.{declaration}
use Rattle.yang_faults.specs.Keys.{leaf_name, key_statement_faults}
use Rattle.yang_faults.proofs.FaultLists.{least-more}
use Rattle.yang_faults.proofs.keys.note_keys.Goals as goal

pub loop-statement-preserved : goal.loop-statement-preserved
loop-statement-preserved c =
    let ss = c.args.statements.now in
    let known = flat_map leaf_name (map declaration ss) in
    least-more declaration (key_statement_faults c.args.file known) ss c.loop-statement.statement-index c.statement-item.result c.loop-statement-test.true c.statement-item.is
    c.args.least.now c.loop-statement.least c.note_key_statement.new.least c.loop-statement.invariant (c.in_ok-note_key_statement.ensures known c.in_ok-leaves.ensures)
