use Rattle.conf_check.specs.FirstWants.{IsWantedPart}
use Rattle.conf_check.proofs.WantSteps.{NoneBefore}
use Rattle.conf_check.proofs.first_wants.first_in_key.Given as goal

abbrev pub invariant-loop-item : goal.invariant-loop-item
invariant-loop-item l = NoneBefore (IsWantedPart l.models l.config l.shape l.key) l.fn.from l.item
