use Rattle.std.proofs.Common.{All, arith, length, sym, subst, ◌∙◌}
use Rattle.change_apply.specs.Change.{ArePositions}
use Rattle.writing_commands.proofs.ReadyChanges.{are_positions, few_steps, plan_defined}
use Rattle.scope_commands.proofs.change_scopes.ready_change.Goals as goal

pub prepare-requires-clause-defined : goal.prepare-requires-clause-defined
prepare-requires-clause-defined c =
    let all = c.args.all.now in
    let from = c.args.from.now in
    plan_defined all.ctx (c.listed_moves_are_defined.ensures.listed all.ctx)
    from.ends.goal from.ends.stored.config c.args.plan.now.plan from.ends.goal c.requires.found.0

pub prepare-requires-clause-few : goal.prepare-requires-clause-few
prepare-requires-clause-few c =
    few_steps (length c.args.plan.now.plan) c.args.all.now.budget c.requires.found.1 c.requires.most

pub prepare-requires-clause-positions : goal.prepare-requires-clause-positions
prepare-requires-clause-positions c =
    let settings = c.args.all.now.ctx.settings in
    subst (All (ArePositions settings)) (sym (c.items.ensures ∙ c.in_ok-services.ensures))
    (are_positions settings c.args.plan.now.plan)

pub prepare-requires-clause-names : goal.prepare-requires-clause-names
prepare-requires-clause-names c = (c.requires.ready 1 (omega arith)).names
