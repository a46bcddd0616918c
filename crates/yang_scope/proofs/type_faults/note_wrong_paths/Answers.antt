use Rattle.std.proofs.Common.{rules, arith}
use Rattle.yang_text.specs.Statements.{declaration}
use Rattle.yang_scope.specs.TypeFaults.{wrong_if_path}
use Rattle.yang_scope.proofs.FaultLists.{least_of-next, least_of-block}
use Rattle.yang_scope.proofs.type_faults.note_wrong_paths.Goals as goal

pub loop-child-preserved : goal.loop-child-preserved
loop-child-preserved c =
    least_of-next (λ s. wrong_if_path c.args.names.now c.args.file c.args.number (declaration s)) _ _ _ c.items-child-items.result.now c.loop-child.child-index c.child-item.result (search rules) (search rules)
    c.loop-child.invariant c.in_ok-note_if_path.ensures

pub returns : goal.returns
returns c =
    least_of-block (wrong_if_path c.args.names.now c.args.file c.args.number) _ _ c.args.statement.now c.items-child-items.result.now c.loop-child.child-index c.items-child-items.ensures (omega arith) (omega arith)
    c.loop-child.invariant
