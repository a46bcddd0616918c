use Rattle.std.proofs.Common.{ap, ◌∙◌}
use Rattle.change_apply.specs.Stages.{first_steps}
use Rattle.change_apply.proofs.ReadyWork.{is_ready}
use Rattle.change_apply.proofs.preparing.prepare.Goals as goal

pub invariant_of-result : goal.invariant_of-result
invariant_of-result c =
    is_ready _ c.args.stored.now c.args.plan.now c.args.services.now c.args.settings.now c.in_ok-stored.ensures c.in_ok-steps.ensures.steps
    c.requires.few c.requires.names c.in_ok-stored_text.ensures.reads_back c.in_ok-stored_text.ensures.shapes_back
    c.in_ok-steps.config c.in_ok-steps.ensures.goal c.in_ok-goal.ensures.config (c.in_ok-goal.ensures.steps ∙ ap first_steps c.len.ensures) c.in_ok-goal.ensures.unfolded
    c.in_ok-goal_text.ensures.text c.in_ok-goal_text.ensures.reads_back c.in_ok-goal_text.ensures.shapes_back
