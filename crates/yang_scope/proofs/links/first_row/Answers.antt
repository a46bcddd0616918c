use Rattle.std.proofs.Common.{◌∙◌, map, sym, ap}
use Rattle.yang_text.specs.Statements.{declaration}
use Rattle.yang_scope.specs.Meanings.{typedef_meaning}
use Rattle.yang_scope.proofs.Blocks.{map-map, map-more}
use Rattle.yang_scope.proofs.Tables.{take_end}
use Rattle.yang_scope.proofs.links.first_row.Goals as goal

pub loop-statement-preserved : goal.loop-statement-preserved
loop-statement-preserved c =
    map-more (λ s. typedef_meaning c.args.set.now c.args.number (declaration s)) c.args.statements.now c.loop-statement.statement-index c.statement-item.result _ _ _
    c.loop-statement-test.true c.statement-item.is c.loop-statement.invariant c.typedef_meaning.ensures c.in_ok-push.ensures.ok

pub returns : goal.returns
returns c =
    c.loop-statement.invariant
    ∙ ap (map (λ s. typedef_meaning c.args.set.now c.args.number (declaration s))) (take_end c.loop-statement.statement-index c.args.statements.now c.loop-statement-test.false c.loop-statement.auto.statement-index-end)
    ∙ sym (map-map (typedef_meaning c.args.set.now c.args.number) declaration c.args.statements.now)
