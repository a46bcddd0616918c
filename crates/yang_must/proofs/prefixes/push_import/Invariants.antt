use Rattle.std.proofs.Common.{List, ◌++◌, take}
use Rattle.std.specs.List.{flat_map}
use Rattle.yang_text.specs.Statements.{declaration}
use Rattle.yang_scope.specs.Modules.{prefix_entry}
use Rattle.yang_scope.specs.NameTables.{IsTableOf}
use Rattle.yang_scope.specs.Statements.{Entry}
use Rattle.yang_must.proofs.prefixes.push_import.Given as goal

abbrev pub invariant-loop-statement : goal.invariant-loop-statement
invariant-loop-statement l = (entries : List Entry) → IsTableOf l.fn.table.numbers entries
    → IsTableOf l.table.numbers (entries ++ flat_map (λ s. prefix_entry l.place (declaration s)) (take l.statement-index l.statements))
