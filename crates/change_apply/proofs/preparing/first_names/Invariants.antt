use Rattle.std.proofs.Common.{◌≡◌}
use Rattle.change_apply.specs.Stages.{first_steps}
use Rattle.change_apply.proofs.preparing.first_names.Given as goal

abbrev pub invariant-loop-i : goal.invariant-loop-i
invariant-loop-i l = l.names ≡ first_steps l.i
