use Rattle.recheck.specs.Changes.{AreUnreadBefore}
use Rattle.recheck.proofs.alone.is_unread.Given as goal

abbrev pub invariant-loop-t : goal.invariant-loop-t
invariant-loop-t l = AreUnreadBefore l.models l.config l.table l.t
