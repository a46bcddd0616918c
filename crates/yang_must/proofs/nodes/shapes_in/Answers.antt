use Rattle.std.proofs.Common.{rules, ◌++◌, [], ◌∷◌, map, sym, ap, ◌∙◌, arith}
use Rattle.std.specs.List.{filter}
use Rattle.yang_text.specs.Statements.{declaration}
use Rattle.yang_scope.proofs.Tables.{take_end}
use Rattle.yang_scope.specs.Nodes.{is_shape}
use Rattle.yang_scope.proofs.Finding.{filter-next}
use Rattle.yang_must.proofs.nodes.shapes_in.Goals as goal

pub loop-statement-preserved : goal.loop-statement-preserved
loop-statement-preserved c =
    let x = c.statement-item.result in
    c.in_ok-shapes.ensures
    ∙ ap (λ ds. ds ++ filter is_shape (declaration x ∷ [])) c.loop-statement.invariant
    ∙ sym (filter-next is_shape declaration c.args.statements.now c.loop-statement.statement-index x (search rules) (search rules))

pub returns : goal.returns
returns c =
    c.loop-statement.invariant
    ∙ ap (λ ss. filter is_shape (map declaration ss)) (take_end c.loop-statement.statement-index c.args.statements.now (omega arith) (omega arith))
