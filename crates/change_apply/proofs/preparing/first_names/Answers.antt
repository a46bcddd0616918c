use Rattle.std.proofs.Common.{arith, ◌∙◌}
use Rattle.conf_store.specs.Files.{last_step}
use Rattle.change_apply.proofs.ReadySteps.{first_more}
use Rattle.change_apply.proofs.preparing.first_names.Goals as goal

pub overflow_cast-i : goal.overflow_cast-i
unfolding last_step
overflow_cast-i c = omega (arith, c.loop-i-test.true, c.requires)

pub overflow_add-i : goal.overflow_add-i
unfolding last_step
overflow_add-i c = omega (arith, c.loop-i-test.true, c.requires)

pub loop-i-preserved : goal.loop-i-preserved
loop-i-preserved c = c.in_ok-push.ensures.ok ∙ first_more c.loop-i.i c.in_ok-name.name c.in_ok-name.ensures c.loop-i.names c.loop-i.invariant
