use Rattle.std.proofs.Common.{length}
use Rattle.conf_check.specs.Validity.{AreSomeEqual}
use Rattle.conf_check.proofs.equal_items.has_equal_pair.Given as goal

abbrev pub invariant-loop-text : goal.invariant-loop-text
invariant-loop-text l = record {
  to : AreSomeEqual l.fn.texts → AreSomeEqual l.rest;
  back : AreSomeEqual l.rest → AreSomeEqual l.fn.texts;
}

abbrev pub decreases-loop-text : goal.decreases-loop-text
decreases-loop-text l = length l.rest
