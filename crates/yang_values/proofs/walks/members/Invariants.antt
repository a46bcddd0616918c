use Rattle.std.proofs.Common.{◌≡◌, codes, filter, map, take}
use Rattle.yang_text.specs.Statements.{declaration}
use Rattle.yang_scope.specs.Statements.{is_keyword}
use Rattle.yang_values.specs.TypeValues.{placed_in}
use Rattle.yang_values.specs.Walks.{placed}
use Rattle.yang_values.proofs.walks.members.Given as goal

abbrev pub invariant-loop-child : goal.invariant-loop-child
invariant-loop-child l = map placed l.places.items ≡ placed_in l.number (filter (is_keyword (codes "type")) (map declaration (take l.child-index l.child-items)))
