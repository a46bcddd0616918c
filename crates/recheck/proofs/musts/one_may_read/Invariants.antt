use Rattle.recheck.specs.Changes.{HaveNoReaders}
use Rattle.recheck.proofs.musts.one_may_read.Given as goal

abbrev pub invariant-loop-i : goal.invariant-loop-i
invariant-loop-i l = HaveNoReaders l.models l.table l.verdicts l.i
