use Rattle.std.proofs.Common.{◌∙◌}
use Rattle.change_apply.proofs.ReadySteps.{restart_more}
use Rattle.change_apply.proofs.ready_steps.restarts_of.Goals as goal

pub loop-i-preserved : goal.loop-i-preserved
loop-i-preserved c =
    c.in_ok-push.ensures.ok
    ∙ restart_more c.args.settings.now c.args.services.now c.loop-i.i 0 c.loop-i-test.true c.at.result.now c.at.ensures c.in_ok-name.name c.in_ok-name.ensures c.loop-i.restarts c.loop-i.invariant
