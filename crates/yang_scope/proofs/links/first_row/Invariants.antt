use Rattle.std.proofs.Common.{◌≡◌, map, take}
use Rattle.yang_text.specs.Statements.{declaration}
use Rattle.yang_scope.specs.Meanings.{typedef_meaning}
use Rattle.yang_scope.proofs.links.first_row.Given as goal

abbrev pub invariant-loop-statement : goal.invariant-loop-statement
invariant-loop-statement l = l.row ≡ map (λ s. typedef_meaning l.set l.number (declaration s)) (take l.statement-index l.statements)
