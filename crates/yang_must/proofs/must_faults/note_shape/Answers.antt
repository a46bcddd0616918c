use Rattle.std.proofs.Common.{rules, ◌∙◌, ap, arith}
use Rattle.yang_text.specs.Statements.{declaration}
use Rattle.yang_scope.proofs.FaultLists.{least_of-next, least_of-block}
use Rattle.std.specs.List.{flat_map}
use Rattle.yang_text.specs.Declarations.{block}
use Rattle.yang_scope.specs.Faults.{least_of}
use Rattle.yang_must.specs.Musts.{in_shape_faults}
use Rattle.yang_must.proofs.must_faults.note_shape.Goals as goal

pub loop-statement-preserved : goal.loop-statement-preserved
loop-statement-preserved c = λ read reads.
    least_of-next (λ s. in_shape_faults read c.args.tree.now c.args.owner.now c.args.table.now c.args.shape.now (declaration s)) _ _ _ c.items-statement-items.result.now c.loop-statement.statement-index c.statement-item.result (search rules) (search rules)
    (c.loop-statement.invariant read reads) (c.in_ok-note_in_shape.ensures read reads)

pub returns : goal.returns
returns c = λ read reads.
    least_of-block (in_shape_faults read c.args.tree.now c.args.owner.now c.args.table.now c.args.shape.now) _ _ c.statement.result.now c.items-statement-items.result.now c.loop-statement.statement-index c.items-statement-items.ensures (omega arith) (omega arith)
    (c.loop-statement.invariant read reads)
    ∙ ap (λ s. least_of c.args.least.now (flat_map (in_shape_faults read c.args.tree.now c.args.owner.now c.args.table.now c.args.shape.now) (block s))) c.statement.ensures
