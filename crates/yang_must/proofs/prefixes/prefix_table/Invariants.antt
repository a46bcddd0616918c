use Rattle.std.proofs.Common.{take}
use Rattle.yang_text.specs.Statements.{declaration}
use Rattle.yang_scope.specs.Modules.{prefixes_by}
use Rattle.yang_scope.specs.NameTables.{IsTableOf}
use Rattle.yang_scope.specs.Statements.{each_from}
use Rattle.yang_must.proofs.prefixes.prefix_table.Given as goal

abbrev pub invariant-loop-place : goal.invariant-loop-place
invariant-loop-place l = IsTableOf l.table.numbers (each_from (λ i s. prefixes_by i (declaration s)) 0 (take l.place l.statements))
