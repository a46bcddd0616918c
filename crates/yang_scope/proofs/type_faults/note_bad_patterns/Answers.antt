use Rattle.std.proofs.Common.{rules, arith}
use Rattle.yang_text.specs.Statements.{declaration}
use Rattle.yang_scope.specs.TypeFaults.{bad_if_pattern}
use Rattle.yang_scope.proofs.FaultLists.{least_of-next, least_of-block}
use Rattle.yang_scope.proofs.type_faults.note_bad_patterns.Goals as goal

pub loop-child-preserved : goal.loop-child-preserved
loop-child-preserved c = λ is_pattern decides.
    least_of-next (λ s. bad_if_pattern is_pattern c.args.file (declaration s)) _ _ _ c.items-child-items.result.now c.loop-child.child-index c.child-item.result (search rules) (search rules)
    (c.loop-child.invariant is_pattern decides) (c.in_ok-note_if_pattern.ensures is_pattern decides)

pub returns : goal.returns
returns c = λ is_pattern decides.
    least_of-block (bad_if_pattern is_pattern c.args.file) _ _ c.args.statement.now c.items-child-items.result.now c.loop-child.child-index c.items-child-items.ensures (omega arith) (omega arith)
    (c.loop-child.invariant is_pattern decides)
