use Rattle.std.proofs.Common.{◌<◌, ℕ}
use Rattle.conf_check.specs.Faults.{IsFalseMust}
use Rattle.conf_check.proofs.musts.first_false_must.Given as goal

abbrev pub invariant-loop-i : goal.invariant-loop-i
invariant-loop-i l = (j : ℕ) → j < l.i → ¬ IsFalseMust l.nodes.models.now l.nodes.config.now l.table l.key l.shape j
