use Rattle.std.proofs.Common.{◌≡◌, take}
use Rattle.yang_must.proofs.model_tree.all_modules.Given as goal

abbrev pub invariant-loop-number : goal.invariant-loop-number
invariant-loop-number l = l.modules.items ≡ take l.number l.names
