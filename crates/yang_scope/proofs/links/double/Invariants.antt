use Rattle.std.proofs.Common.{◌≡◌, map, take}
use Rattle.yang_scope.specs.Links.{link_behind}
use Rattle.yang_scope.proofs.links.double.Given as goal

abbrev pub invariant-loop-row : goal.invariant-loop-row
invariant-loop-row l = l.next ≡ map (map (link_behind l.links)) (take l.row-index l.links)
