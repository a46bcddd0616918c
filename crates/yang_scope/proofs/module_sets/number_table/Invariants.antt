use Rattle.std.proofs.Common.{take}
use Rattle.yang_scope.specs.Modules.{module_entry}
use Rattle.yang_scope.specs.NameTables.{IsTableOf}
use Rattle.yang_scope.specs.Statements.{each_from}
use Rattle.yang_scope.proofs.module_sets.number_table.Given as goal

abbrev pub invariant-loop-number : goal.invariant-loop-number
invariant-loop-number l = IsTableOf l.table.numbers (each_from module_entry 0 (take l.number l.modules))
