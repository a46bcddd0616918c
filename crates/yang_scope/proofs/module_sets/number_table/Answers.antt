use Rattle.std.proofs.Common.{rules, ap}
use Rattle.yang_text.specs.Declarations.{argument}
use Rattle.yang_scope.specs.Modules.{module_entry}
use Rattle.yang_scope.specs.Statements.{name_entry}
use Rattle.yang_scope.proofs.Tables.{IsTableOf-element}
use Rattle.yang_scope.proofs.module_sets.number_table.Goals as goal

pub loop-number-preserved : goal.loop-number-preserved
loop-number-preserved c =
    IsTableOf-element module_entry c.push_some.new.self.numbers c.args.modules.now c.loop-number.number c.index-modules-number.result (name_entry c.loop-number.number c.statement.result.now.argument)
    (search rules) (search rules) (ap (λ d. name_entry c.loop-number.number (argument d)) c.statement.ensures)
    (c.in_ok-push_some.ensures _ c.loop-number.invariant)
