use Rattle.std.proofs.Common.{◌≡◌, map, take}
use Rattle.std.specs.List.{filter}
use Rattle.yang_text.specs.Statements.{declaration}
use Rattle.yang_scope.specs.Nodes.{is_shape}
use Rattle.yang_must.proofs.nodes.shapes_in.Given as goal

abbrev pub invariant-loop-statement : goal.invariant-loop-statement
invariant-loop-statement l = l.shapes ≡ filter is_shape (map declaration (take l.statement-index l.statements))
