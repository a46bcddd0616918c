use Rattle.std.proofs.Common.{List, ◌++◌, ◌∙◌, subst, sym, ap}
use Rattle.std.specs.List.{flat_map}
use Rattle.yang_text.specs.Statements.{declaration}
use Rattle.yang_scope.specs.Modules.{prefix_entry}
use Rattle.yang_scope.specs.NameTables.{IsTableOf}
use Rattle.yang_scope.specs.Statements.{Entry}
use Rattle.yang_scope.proofs.Blocks.{flat_map-map, flat_map-more}
use Rattle.yang_scope.proofs.Tables.{take_end}
use Rattle.yang_scope.proofs.modules.push_import.Goals as goal

pub loop-statement-preserved : goal.loop-statement-preserved
loop-statement-preserved c = λ entries table.
    subst (λ (es : List Entry). IsTableOf c.push_prefix.new.table.numbers es)
    (flat_map-more (λ s. prefix_entry c.args.place (declaration s)) c.args.statements.now c.loop-statement.statement-index c.statement-item.result entries c.loop-statement-test.true c.statement-item.is)
    (c.in_ok-push_prefix.ensures _ (c.loop-statement.invariant entries table))

pub returns : goal.returns
returns c = λ entries table.
    subst (λ (es : List Entry). IsTableOf c.loop-statement.table.numbers (entries ++ es))
    (ap (flat_map (λ s. prefix_entry c.args.place (declaration s))) (take_end c.loop-statement.statement-index c.args.statements.now c.loop-statement-test.false c.loop-statement.auto.statement-index-end) ∙ sym (flat_map-map (prefix_entry c.args.place) declaration c.args.statements.now))
    (c.loop-statement.invariant entries table)
