use Rattle.std.proofs.Common.{length}
use Rattle.base_examples.proofs.small_trees.+children.Given as goal

abbrev pub decreases-children : goal.decreases-children
decreases-children l = length l.families.now
