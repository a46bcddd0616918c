use Rattle.recheck.specs.Changes.{AreNoReaders}
use Rattle.recheck.proofs.musts.may_read.Given as goal

abbrev pub invariant-loop-place : goal.invariant-loop-place
invariant-loop-place l = AreNoReaders l.models l.name l.table l.place
