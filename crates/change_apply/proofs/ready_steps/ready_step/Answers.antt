use Rattle.std.proofs.Common.{arith}
use Rattle.conf_store.specs.Files.{last_step}
use Rattle.change_apply.proofs.ready_steps.ready_step.Goals as goal

pub overflow_cast-k : goal.overflow_cast-k
unfolding last_step
overflow_cast-k c = omega (arith, c.requires.few)

pub overflow_add-k : goal.overflow_add-k
unfolding last_step
overflow_add-k c = omega (arith, c.requires.few)

pub overflow_add-k-2 : goal.overflow_add-k-2
unfolding last_step
overflow_add-k-2 c = omega (arith, c.requires.few)
