use Rattle.std.proofs.Common.{List, ◌++◌, ◌∙◌, subst, sym, ap, arith}
use Rattle.std.specs.List.{flat_map}
use Rattle.yang_text.specs.Statements.{declaration}
use Rattle.yang_scope.specs.Modules.{prefix_entry}
use Rattle.yang_scope.specs.NameTables.{IsTableOf}
use Rattle.yang_scope.specs.Statements.{Entry}
use Rattle.yang_scope.proofs.Blocks.{flat_map-map}
use Rattle.yang_scope.proofs.Tables.{take_end}
use Rattle.yang_must.proofs.prefixes.push_import.Goals as goal

pub returns : goal.returns
returns c = λ entries table.
    subst (λ (es : List Entry). IsTableOf c.loop-statement.table.numbers (entries ++ es))
    (ap (flat_map (λ s. prefix_entry c.args.place (declaration s))) (take_end c.loop-statement.statement-index c.args.statements.now (omega arith) (omega arith)) ∙ sym (flat_map-map (prefix_entry c.args.place) declaration c.args.statements.now))
    (c.loop-statement.invariant entries table)
