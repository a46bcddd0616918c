use Rattle.std.proofs.Common.{List, map, refl, take_all, ap, ◌∙◌}
use Rattle.yang_text.specs.Statements.{declaration}
use Rattle.yang_text.specs.declared.statements.Statement.{Statement}
use Rattle.yang_scope.specs.Faults.{least_of}
use Rattle.yang_faults.specs.DefaultFaults.{bad_default_at, bad_defaults}
use Rattle.yang_faults.proofs.FaultLists.{least-more}
use Rattle.yang_faults.proofs.defaults.note_defaults.Goals as goal

pub loop-statement-init : goal.loop-statement-init
loop-statement-init c = λ known set tests decide. refl

pub loop-statement-preserved : goal.loop-statement-preserved
loop-statement-preserved c = λ known set tests decide.
    least-more declaration (bad_default_at c.args.scope.now.names.now tests c.args.scope.now.file c.args.scope.now.number known) c.args.statements.now c.loop-statement.statement-index c.statement-item.result c.loop-statement-test.true c.statement-item.is
    c.args.least.now c.loop-statement.least c.note_default_at.new.least (c.loop-statement.invariant known set tests decide) (c.in_ok-note_default_at.ensures known set tests decide)

pub returns : goal.returns
returns c = λ known set tests decide.
    c.loop-statement.invariant known set tests decide
    ∙ ap (λ (ss : List Statement). least_of c.args.least.now (bad_defaults c.args.scope.now.names.now tests c.args.scope.now.file c.args.scope.now.number known (map declaration ss)))
    (take_all c.loop-statement.statement-index c.args.statements.now c.loop-statement-test.false)
