use Rattle.std.proofs.Common.{refl}
use Rattle.yang_text.specs.Statements.{declaration}
use Rattle.yang_faults.specs.Fields.{field_faults}
use Rattle.yang_faults.proofs.FaultLists.{least-more}
use Rattle.yang_faults.proofs.fields.note_fields.Goals as goal

pub loop-statement-init : goal.loop-statement-init
loop-statement-init c = λ known set. refl

pub loop-statement-preserved : goal.loop-statement-preserved
loop-statement-preserved c = λ known set.
    least-more declaration (field_faults c.args.file known) c.args.statements.now c.loop-statement.statement-index c.statement-item.result c.loop-statement-test.true c.statement-item.is
    c.args.least.now c.loop-statement.least c.note_field.new.least (c.loop-statement.invariant known set) (c.note_field.ensures known set)
