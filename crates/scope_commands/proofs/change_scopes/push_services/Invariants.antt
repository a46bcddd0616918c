use Rattle.std.proofs.Common.{◌≡◌, ◌++◌, map, take}
use Rattle.move_core.specs.Services.{services_of}
use Rattle.scope_commands.proofs.change_scopes.push_services.Given as goal

-- the services of the first k moves are added
abbrev pub invariant-loop-k : goal.invariant-loop-k
invariant-loop-k l = l.all ≡ l.fn.all ++ map (services_of l.settings) (take l.k l.plan)
