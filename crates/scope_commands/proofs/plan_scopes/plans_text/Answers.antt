use Rattle.std.proofs.Common.{List, map, ap, ◌∙◌}
use Rattle.std.proofs.lemmas.List.{take_all}
use Rattle.command_answers.specs.ScopeTexts.{scopes_text}
use Rattle.scope_commands.specs.SolvedScopes.{scope_plan}
use Rattle.scope_commands.specs.declared.plan_scopes.ScopePlan as code
use Rattle.scope_commands.proofs.ScopesSolving.{text_on}
use Rattle.scope_commands.proofs.plan_scopes.plans_text.Goals as goal

pub loop-plan-preserved : goal.loop-plan-preserved
loop-plan-preserved c =
    text_on c.items-plan-items.result.now c.loop-plan.plan-index c.plan-item.result c.loop-plan.text.items
    c.push_plan.new.text.items c.loop-plan-test.true c.plan-item.is
    c.loop-plan.invariant c.in_ok-push_plan.ensures

pub returns : goal.returns
returns c =
    c.loop-plan.invariant
    ∙ ap (λ (ps : List code.ScopePlan). scopes_text (map scope_plan ps))
    (take_all c.loop-plan.plan-index c.items-plan-items.result.now c.loop-plan-test.false ∙
    c.items-plan-items.ensures)
