use Rattle.std.proofs.Common.{length}
use Rattle.conf_check.specs.EqualItems.{IsRising}
use Rattle.conf_check.proofs.equal_items.is_rising.Given as goal

abbrev pub invariant-loop-text : goal.invariant-loop-text
invariant-loop-text l = IsRising l.by_length l.rest → IsRising l.by_length l.fn.texts

abbrev pub decreases-loop-text : goal.decreases-loop-text
decreases-loop-text l = length l.rest
