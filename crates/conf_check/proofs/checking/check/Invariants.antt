use Rattle.conf_check.proofs.Breaches.{NoTableBefore}
use Rattle.conf_check.proofs.checking.check.Given as goal

abbrev pub invariant-loop-table : goal.invariant-loop-table
invariant-loop-table l = NoTableBefore l.models l.config l.table
