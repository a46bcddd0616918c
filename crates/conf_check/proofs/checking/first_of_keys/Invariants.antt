use Rattle.conf_check.proofs.Breaches.{NoneBefore}
use Rattle.conf_check.proofs.checking.first_of_keys.Given as goal

abbrev pub invariant-loop-key : goal.invariant-loop-key
invariant-loop-key l = NoneBefore l.nodes.models.now l.nodes.config.now l.table l.key
