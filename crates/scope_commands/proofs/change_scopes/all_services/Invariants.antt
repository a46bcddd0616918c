use Rattle.std.proofs.Common.{◌≡◌, map, take}
use Rattle.std.specs.Prelude.{flat_map}
use Rattle.move_core.specs.Services.{services_of}
use Rattle.scope_commands.specs.declared.plan_scopes.ScopePlan as code
use Rattle.scope_commands.proofs.change_scopes.all_services.Given as goal

-- the services of the first plans
abbrev pub invariant-loop-plan : goal.invariant-loop-plan
invariant-loop-plan l =
    l.all ≡ flat_map (λ (p : code.ScopePlan). map (services_of l.settings) p.plan) (take l.plan-index l.plan-items)
