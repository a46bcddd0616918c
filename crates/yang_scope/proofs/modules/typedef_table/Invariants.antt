use Rattle.std.proofs.Common.{take}
use Rattle.yang_text.specs.Statements.{declaration}
use Rattle.yang_scope.specs.Modules.{typedef_entry}
use Rattle.yang_scope.specs.NameTables.{IsTableOf}
use Rattle.yang_scope.specs.Statements.{each_from}
use Rattle.yang_scope.proofs.modules.typedef_table.Given as goal

abbrev pub invariant-loop-place : goal.invariant-loop-place
invariant-loop-place l = IsTableOf l.table.numbers (each_from (λ i s. typedef_entry i (declaration s)) 0 (take l.place l.statements))
