use Rattle.std.proofs.Common.{length}
use Rattle.conf_check.specs.Validity.{AreSomeEqual}
use Rattle.conf_check.proofs.equal_items.has_equal_in_groups.Given as goal

abbrev pub invariant-loop-rest : goal.invariant-loop-rest
invariant-loop-rest l = record {
  to : AreSomeEqual l.fn.texts → AreSomeEqual l.rest;
  back : AreSomeEqual l.rest → AreSomeEqual l.fn.texts;
}

abbrev pub decreases-loop-rest : goal.decreases-loop-rest
decreases-loop-rest l = length l.rest
