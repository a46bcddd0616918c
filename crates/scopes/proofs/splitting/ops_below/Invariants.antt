use Rattle.std.proofs.Common.{◌≡◌, map, take}
use Rattle.patch_core.specs.Operation.{operation_of}
use Rattle.scopes.proofs.Parting.{those_under}
use Rattle.scopes.proofs.splitting.ops_below.Given as goal

-- those of the operations so far
abbrev pub invariant-loop-op : goal.invariant-loop-op
invariant-loop-op l = map operation_of l.all ≡ those_under l.name (take l.op-index l.ops)
