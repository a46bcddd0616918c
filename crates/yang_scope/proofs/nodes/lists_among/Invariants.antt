use Rattle.std.proofs.Common.{◌≡◌, take}
use Rattle.yang_text.specs.Statements.{declaration}
use Rattle.yang_scope.specs.Nodes.{list_in}
use Rattle.yang_scope.specs.Statements.{each_from}
use Rattle.yang_scope.proofs.nodes.lists_among.Given as goal

abbrev pub invariant-loop-number : goal.invariant-loop-number
invariant-loop-number l = l.lists ≡ each_from (λ i s. list_in i (declaration s.now)) 0 (take l.number l.shapes)
