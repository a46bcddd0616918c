use Rattle.conf_doc.specs.Blocks.{AreBlocks}
use Rattle.conf_doc.proofs.blocks.push_all_moved.Given as goal

abbrev pub invariant-loop-placed : goal.invariant-loop-placed
invariant-loop-placed l = AreBlocks l.after l.blocks.items
