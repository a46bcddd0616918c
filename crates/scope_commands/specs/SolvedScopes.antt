-- The plan of a scope as the code keeps it.
use Rattle.gcu_requests.specs.Request.{ScopePlan}
use Rattle.scope_commands.specs.declared.plan_scopes.ScopePlan as code

-- the scope with the moves of its plan
abbrev pub scope_plan : code.ScopePlan → ScopePlan
scope_plan p = (p.scope, p.plan)
