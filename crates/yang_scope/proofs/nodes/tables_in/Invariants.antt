use Rattle.std.proofs.Common.{◌≡◌, map, take, codes}
use Rattle.std.specs.List.{filter}
use Rattle.yang_text.specs.Statements.{declaration}
use Rattle.yang_scope.specs.Statements.{is_keyword}
use Rattle.yang_scope.proofs.nodes.tables_in.Given as goal

abbrev pub invariant-loop-statement : goal.invariant-loop-statement
invariant-loop-statement l = l.tables ≡ filter (is_keyword (codes "container")) (map declaration (take l.statement-index l.statements))
