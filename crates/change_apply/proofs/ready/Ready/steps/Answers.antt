use Rattle.std.proofs.Common.{ap, arith, sym, ◌∙◌}
use Rattle.change_apply.specs.Change.{steps}
use Rattle.change_apply.proofs.DueSteps.{count_is}
use Rattle.change_apply.proofs.ready.Ready.steps.Goals as goal

pub returns-clause-steps : goal.returns-clause-steps
returns-clause-steps c = c.len.ensures ∙ sym (count_is c.self.inside.work) ∙ ap steps c.self.view_is

pub returns-clause-few : goal.returns-clause-few
returns-clause-few c = omega (arith, c.len.ensures, c.self.invariant.few)
