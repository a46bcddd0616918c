use Rattle.std.proofs.Common.{rules, arith}
use Rattle.yang_text.specs.Declarations.{argument}
use Rattle.yang_text.specs.Statements.{declaration}
use Rattle.yang_scope.specs.Meanings.{base_of}
use Rattle.yang_scope.proofs.FaultLists.{least_of-next, least_of-block}
use Rattle.yang_values.specs.BoundFaults.{bad_if_bounds}
use Rattle.yang_values.specs.Values.{restricted_values}
use Rattle.yang_values.proofs.bound_faults.note_bad_bounds.Goals as goal

pub loop-child-preserved : goal.loop-child-preserved
loop-child-preserved c =
    let d = declaration c.args.statement.now in
    least_of-next (λ s. bad_if_bounds (base_of c.args.names.now c.args.number (argument d)) (restricted_values c.args.names.now c.args.number d) c.args.file (declaration s)) _ _ _ c.items-child-items.result.now c.loop-child.child-index c.child-item.result (search rules) (search rules)
    c.loop-child.invariant c.in_ok-note_if_bounds.ensures

pub returns : goal.returns
returns c =
    let d = declaration c.args.statement.now in
    least_of-block (bad_if_bounds (base_of c.args.names.now c.args.number (argument d)) (restricted_values c.args.names.now c.args.number d) c.args.file) _ _ c.args.statement.now c.items-child-items.result.now c.loop-child.child-index c.items-child-items.ensures (omega arith) (omega arith)
    c.loop-child.invariant
