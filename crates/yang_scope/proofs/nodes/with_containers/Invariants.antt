use Rattle.std.proofs.Common.{◌≡◌, ◌++◌, codes, map, take}
use Rattle.std.specs.List.{filter}
use Rattle.yang_text.specs.Declarations.{Declaration}
use Rattle.yang_text.specs.Statements.{declaration}
use Rattle.yang_scope.specs.Statements.{is_keyword}
use Rattle.yang_scope.proofs.nodes.with_containers.Given as goal

abbrev pub invariant-loop-statement : goal.invariant-loop-statement
invariant-loop-statement l =
    l.all
    ≡ l.fn.containers
    ++ map (λ (d : Declaration). (l.number, d))
    (filter (is_keyword (codes "container")) (map declaration (take l.statement-index l.statement-items)))
