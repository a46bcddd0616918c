use Rattle.std.proofs.Common.{◌∷◌, [], ◌++◌, ℕ, suc, ◌+◌, ◌≡◌, ap, arith, take, ◌∙◌}
use Rattle.std.proofs.lemmas.List.{take_all}
use Rattle.scope_commands.specs.ReadyScopes.{works_by}
use Rattle.scope_commands.proofs.ScopeReadiness.{found_at, found_long, ready_there, works_more}
use Rattle.scope_commands.proofs.change_scopes.ready_changes.Goals as goal

pub at-plan-requires : goal.at-plan-requires
at-plan-requires c =
    let all = c.args.all.now in
    let long = found_long all.ctx all.budget all.scopes c.args.plans.now c.requires.found in
    omega (arith, long, c.len-i-end.ensures, c.loop-i-test.true)

pub ready_change-requires-clause-ready : goal.ready_change-requires-clause-ready
ready_change-requires-clause-ready c =
    ready_there c.args.all.now.ctx c.args.all.now.scopes c.loop-i.i c.at-from.result.now c.at-from.ensures
    c.requires.ready

pub ready_change-requires-clause-found : goal.ready_change-requires-clause-found
ready_change-requires-clause-found c =
    let all = c.args.all.now in
    found_at all.ctx all.budget all.scopes c.args.plans.now c.loop-i.i c.at-from.result.now c.at-plan.result.now
    c.requires.found c.at-from.ensures c.at-plan.ensures

pub loop-i-preserved : goal.loop-i-preserved
loop-i-preserved c =
    let all = c.args.all.now in
    let up : suc c.loop-i.i ≡ c.loop-i.i + 1 = omega arith in
    c.in_ok-push.ensures.ok
    ∙ (λ j. c.loop-i.invariant j ++ c.in_ok-change.ensures j ∷ [])
    ∙ works_more all.ctx.settings all.scopes c.args.plans.now c.loop-i.i c.at-from.result.now c.at-plan.result.now
    c.at-from.ensures c.at-plan.ensures
    ∙ ap (λ (n : ℕ). works_by all.ctx.settings (take n all.scopes) (take n c.args.plans.now)) up

pub returns : goal.returns
returns c =
    let all = c.args.all.now in
    let long = found_long all.ctx all.budget all.scopes c.args.plans.now c.requires.found in
    c.loop-i.invariant
    ∙ (λ j. works_by all.ctx.settings
    (take_all c.loop-i.i all.scopes (omega (arith, c.len-i-end.ensures, c.loop-i-test.false)) j)
    (take_all c.loop-i.i c.args.plans.now (omega (arith, long, c.len-i-end.ensures, c.loop-i-test.false)) j))
