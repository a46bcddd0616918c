use Rattle.std.proofs.Common.{arith}
use Rattle.patch_core.proofs.Nodes.{below_past}
use Rattle.patch_core.proofs.walks.item_index.Goals as goal

pub returns-in-End-clause-missing : goal.returns-in-End-clause-missing
returns-in-End-clause-missing c = below_past c.args.missing c.args.token.now c.args.items.now c.len.result c.in-End.ensures (omega (arith, c.len.ensures))

pub returns-in-Past-clause-missing : goal.returns-in-Past-clause-missing
returns-in-Past-clause-missing c = below_past c.args.missing c.args.token.now c.args.items.now c.in-Past.ensures.0 c.in-Past.ensures.1 (omega (arith, c.len.ensures, c.in-Past.ensures.2))
