use Rattle.std.proofs.Common.{◌∙◌, ap}
use Rattle.move_core.specs.declared.contexts.Ctx.{Ctx}
use Rattle.sessions.specs.Runs.{moves_of}
use Rattle.writing_commands.proofs.ReadyChanges.{run_few, run_is_ready, run_moves}
use Rattle.writing_commands.proofs.operate.ready_commits.Goals as goal

pub ready_bytes-requires-clause-defined : goal.ready_bytes-requires-clause-defined
ready_bytes-requires-clause-defined g c =
    let o = c.in_ok-stored.field-0 in
    run_moves c.args.operating o.text.items o.world o.stored c.in_ok-plan.plan c.in_ok-stored.ensures.operated
    c.requires.ready.start
    (c.listed_moves_are_defined.ensures.listed c.args.operating.ctx) c.in_ok-stored.ensures.stored
    (c.in_ok-plan.ensures ∙ ap moves_of c.commits.ensures.commits)

pub ready_bytes-requires-clause-few : goal.ready_bytes-requires-clause-few
ready_bytes-requires-clause-few g c =
    let o = c.in_ok-stored.field-0 in
    run_few c.args.operating o.text.items o.world c.in_ok-plan.plan c.in_ok-stored.ensures.operated c.requires.ready.few
    (c.in_ok-plan.ensures ∙ ap moves_of c.commits.ensures.commits)

pub returns-clause-run : goal.returns-clause-run
returns-clause-run g c =
    let o = c.in_ok-stored.field-0 in
    run_is_ready c.args.operating c.in_ok-ready.ready o.text.items o.world c.ctx.result.now.settings o.stored
    c.in_ok-plan.plan c.in_ok-stored.ensures.operated
    (ap (λ (x : Ctx). x.settings) c.ctx.ensures.ctx) c.in_ok-stored.ensures.stored
    (c.in_ok-plan.ensures ∙ ap moves_of c.commits.ensures.commits)
    c.in_ok-ready.ensures.change c.in_ok-ready.ensures.text c.in_ok-ready.ensures.closes
