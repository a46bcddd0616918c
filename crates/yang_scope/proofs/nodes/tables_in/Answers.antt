use Rattle.std.proofs.Common.{rules, ◌++◌, [], ◌∷◌, map, codes, sym, ap, ◌∙◌, arith}
use Rattle.std.specs.List.{filter}
use Rattle.yang_text.specs.Statements.{declaration}
use Rattle.yang_scope.proofs.Tables.{take_end}
use Rattle.yang_scope.specs.Statements.{is_keyword}
use Rattle.yang_scope.proofs.Finding.{filter-next}
use Rattle.yang_scope.proofs.nodes.tables_in.Goals as goal

pub loop-statement-preserved : goal.loop-statement-preserved
loop-statement-preserved c =
    let x = c.statement-item.result in
    c.in_ok-tables.ensures
    ∙ ap (λ ds. ds ++ filter (is_keyword (codes "container")) (declaration x ∷ [])) c.loop-statement.invariant
    ∙ sym (filter-next (is_keyword (codes "container")) declaration c.args.statements.now c.loop-statement.statement-index x (search rules) (search rules))

pub returns : goal.returns
returns c =
    c.loop-statement.invariant
    ∙ ap (λ ss. filter (is_keyword (codes "container")) (map declaration ss)) (take_end c.loop-statement.statement-index c.args.statements.now (omega arith) (omega arith))
