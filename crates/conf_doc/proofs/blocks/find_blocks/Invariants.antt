use Rattle.conf_doc.specs.Blocks.{AreBlocks}
use Rattle.conf_doc.proofs.blocks.find_blocks.Given as goal

abbrev pub invariant-loop-placed : goal.invariant-loop-placed
invariant-loop-placed l = AreBlocks l.list l.blocks.items
