use Rattle.std.proofs.Common.{arith}
use Rattle.patch_core.proofs.Prefixes.{leads_at_end}
use Rattle.patch_core.proofs.walks.leads_into.Goals as goal

pub returns : goal.returns
returns c = leads_at_end c.args.from.now c.args.path.now c.loop-i.i (omega arith) c.loop-i.invariant
