use Rattle.std.proofs.Common.{◌≡◌, map}
use Rattle.patch_core.specs.Operation.{operation_of}
use Rattle.scopes.proofs.Parting.{first_scopes, parts_among}
use Rattle.scopes.specs.Splitting.{part_of}
use Rattle.scopes.proofs.splitting.parts_of.Given as goal

-- the parts of the scopes so far
abbrev pub invariant-loop-number : goal.invariant-loop-number
invariant-loop-number l = map part_of l.all.items ≡ parts_among (first_scopes l.number) (map operation_of l.ops)
