use Rattle.std.proofs.Common.{◌∙◌}
use Rattle.move_core.specs.Services.{services_of}
use Rattle.writing_commands.proofs.FaultTexts.{map_next}
use Rattle.writing_commands.proofs.changing.plan_services.Goals as goal

pub loop-k-preserved : goal.loop-k-preserved
loop-k-preserved c =
    c.in_ok-push.ensures.ok
    ∙ map_next (services_of c.args.settings.now) c.args.plan.now c.loop-k.k c.at.result.now c.in_ok-services_of.field-0
    c.loop-k.all c.at.ensures c.in_ok-services_of.ensures c.loop-k.invariant
