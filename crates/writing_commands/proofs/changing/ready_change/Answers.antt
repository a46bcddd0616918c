use Rattle.std.proofs.Common.{length}
use Rattle.writing_commands.proofs.ReadyChanges.{few_steps, plan_defined}
use Rattle.writing_commands.proofs.changing.ready_change.Goals as goal

pub ready_bytes-requires-clause-defined : goal.ready_bytes-requires-clause-defined
ready_bytes-requires-clause-defined c =
    let p = c.args.planning.now in
    plan_defined p.ctx (c.listed_moves_are_defined.ensures.listed p.ctx) p.goal p.stored.config c.args.plan.now p.goal
    c.requires.found.0

pub ready_bytes-requires-clause-few : goal.ready_bytes-requires-clause-few
ready_bytes-requires-clause-few c =
    few_steps (length c.args.plan.now) c.args.planning.now.budget c.requires.found.1 c.requires.most
