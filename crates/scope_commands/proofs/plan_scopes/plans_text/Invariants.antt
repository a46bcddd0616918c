use Rattle.std.proofs.Common.{◌≡◌, map, take}
use Rattle.command_answers.specs.ScopeTexts.{scopes_text}
use Rattle.scope_commands.specs.SolvedScopes.{scope_plan}
use Rattle.scope_commands.proofs.plan_scopes.plans_text.Given as goal

abbrev pub invariant-loop-plan : goal.invariant-loop-plan
invariant-loop-plan l = l.text.items ≡ scopes_text (map scope_plan (take l.plan-index l.plan-items))
