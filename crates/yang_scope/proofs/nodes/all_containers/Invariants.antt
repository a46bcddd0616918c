use Rattle.std.proofs.Common.{◌≡◌, take}
use Rattle.yang_scope.specs.Statements.{each_from}
use Rattle.yang_scope.specs.Nodes.{containers_in}
use Rattle.yang_scope.proofs.nodes.all_containers.Given as goal

abbrev pub invariant-loop-number : goal.invariant-loop-number
invariant-loop-number l = l.containers ≡ each_from containers_in 0 (take l.number l.modules)
