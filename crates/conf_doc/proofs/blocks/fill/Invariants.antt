use Rattle.std.proofs.Common.{◌-◌}
use Rattle.conf_doc.specs.Blocks.{AreBlocks}
use Rattle.conf_doc.proofs.blocks.fill.Given as goal

abbrev pub invariant-loop-start : goal.invariant-loop-start
invariant-loop-start l = AreBlocks l.list l.blocks.items

abbrev pub decreases-loop-start : goal.decreases-loop-start
decreases-loop-start l = l.end - l.start
