use Rattle.std.proofs.Common.{◌≡◌, map, take}
use Rattle.yang_scope.specs.Links.{link_behind}
use Rattle.yang_scope.proofs.links.double_row.Given as goal

abbrev pub invariant-loop-link : goal.invariant-loop-link
invariant-loop-link l = l.next ≡ map (link_behind l.links) (take l.link-index l.row)
