use Rattle.std.proofs.Common.{ap, map, ◌∙◌}
use Rattle.std.specs.Prelude.{flat_map}
use Rattle.std.proofs.lemmas.List.{take_all}
use Rattle.move_core.specs.Services.{services_of}
use Rattle.scope_commands.specs.declared.plan_scopes.ScopePlan as code
use Rattle.scope_commands.proofs.ScopeReadiness.{services_on}
use Rattle.scope_commands.proofs.change_scopes.all_services.Goals as goal

pub loop-plan-preserved : goal.loop-plan-preserved
loop-plan-preserved c =
    services_on c.args.settings.now c.items-plan-items.result.now c.loop-plan.plan-index c.plan-item.result
    c.loop-plan.all _ c.loop-plan-test.true c.plan-item.is
    c.loop-plan.invariant c.in_ok-push_services.ensures

pub returns : goal.returns
returns c =
    c.loop-plan.invariant
    ∙ ap (flat_map (λ (p : code.ScopePlan). map (services_of c.args.settings.now) p.plan))
    (take_all c.loop-plan.plan-index c.items-plan-items.result.now c.loop-plan-test.false ∙ c.items-plan-items.ensures)
