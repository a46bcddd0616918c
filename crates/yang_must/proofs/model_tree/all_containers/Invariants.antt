use Rattle.std.proofs.Common.{◌≡◌, take}
use Rattle.yang_scope.specs.Statements.{each_from}
use Rattle.yang_must.specs.Spots.{containers_in}
use Rattle.yang_must.proofs.model_tree.all_containers.Given as goal

abbrev pub invariant-loop-number : goal.invariant-loop-number
invariant-loop-number l = l.containers ≡ each_from containers_in 0 (take l.number l.modules)
