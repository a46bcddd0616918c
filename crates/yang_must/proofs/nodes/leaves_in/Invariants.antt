use Rattle.std.proofs.Common.{◌≡◌, map, take}
use Rattle.std.specs.List.{filter}
use Rattle.yang_text.specs.Statements.{declaration}
use Rattle.yang_must.specs.Spots.{is_leaf}
use Rattle.yang_must.proofs.nodes.leaves_in.Given as goal

abbrev pub invariant-loop-statement : goal.invariant-loop-statement
invariant-loop-statement l = l.leaves ≡ filter is_leaf (map declaration (take l.statement-index l.statements))
