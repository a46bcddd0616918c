-- What is found for the check of a plan, at each of its readings.
use Rattle.std.proofs.lemmas.Result.{err_from_is_err_and}
use Rattle.gcu_inputs.proofs.Finding.{always_refuses}
use Rattle.gcu_inputs.proofs.Reading.{of_files, of_inputs, reads_both}
use Rattle.gcu_requests.proofs.PlanCheckFinding.{moves_judged, no_check_ctx, no_check_goal, no_check_start, no_moves}
use Rattle.gcu_requests.proofs.plan_checking.judge_inputs.Goals as goal

-- there is nothing to judge by
pub returns-in_err-ctx-clause-answer : goal.returns-in_err-ctx-clause-answer
returns-in_err-ctx-clause-answer g c =
    let p = err_from_is_err_and c.from_residual.result c.from_residual.ensures.1 in
    rw (p.1, p.2)
    (no_check_ctx c.args.patch.now c.args.plan.now (g.H.Host.told c.args.host.now)
    c.in_err-ctx.field-0.0 c.in_err-ctx.ensures.answer)

-- there is no start
pub returns-in_err-stored-clause-answer : goal.returns-in_err-stored-clause-answer
returns-in_err-stored-clause-answer g c =
    let p = err_from_is_err_and c.from_residual-in_err-stored.result c.from_residual-in_err-stored.ensures.1 in
    rw (p.1, p.2)
    (no_check_start c.args.patch.now c.args.plan.now (g.H.Host.told c.args.host.now)
    c.in_ok-ctx.ctx c.in_err-stored.field-0.0 c.in_ok-ctx.ensures.answer
    (rw c.in_ok-ctx.ensures.reads.state at c.in_err-stored.ensures.answer))

-- there is no goal
pub returns-in_err-goal-clause-answer : goal.returns-in_err-goal-clause-answer
returns-in_err-goal-clause-answer g c =
    let p = err_from_is_err_and c.from_residual-in_err-goal.result c.from_residual-in_err-goal.ensures.1 in
    rw (p.1, p.2)
    (no_check_goal c.args.patch.now c.args.plan.now c.in_ok-ctx.ctx c.in_ok-stored.stored
    (g.H.Host.told c.args.host.now) c.in_err-goal.field-0.0
    c.in_ok-ctx.ensures.answer (rw c.in_ok-ctx.ensures.reads.state at c.in_ok-stored.ensures.answer)
    (rw (c.in_ok-stored.ensures.reads.state, c.in_ok-ctx.ensures.reads.state) at c.in_err-goal.ensures.answer))

-- there are no moves
pub returns-in_err-moves-clause-answer : goal.returns-in_err-moves-clause-answer
returns-in_err-moves-clause-answer g c =
    let p = err_from_is_err_and c.from_residual-in_err-moves.result c.from_residual-in_err-moves.ensures.1 in
    rw (p.1, p.2)
    (no_moves c.args.patch.now c.args.plan.now c.in_ok-ctx.ctx c.in_ok-stored.stored (g.H.Host.told c.args.host.now)
    c.in_ok-goal.goal c.in_err-moves.field-0.0
    c.in_ok-ctx.ensures.answer (rw c.in_ok-ctx.ensures.reads.state at c.in_ok-stored.ensures.answer)
    (rw (c.in_ok-stored.ensures.reads.state, c.in_ok-ctx.ensures.reads.state) at c.in_ok-goal.ensures.answer)
    (rw (c.in_ok-goal.ensures.reads.state, c.in_ok-stored.ensures.reads.state, c.in_ok-ctx.ensures.reads.state) at
    c.in_err-moves.ensures.answer))

pub returns-in_err-moves-clause-reads : goal.returns-in_err-moves-clause-reads
returns-in_err-moves-clause-reads g c =
    reads_both g.met.H.Host.continues (of_inputs c.in_ok-ctx.ensures.reads)
    (reads_both g.met.H.Host.continues (of_files c.in_ok-stored.ensures.reads)
    (reads_both g.met.H.Host.continues c.in_ok-goal.ensures.reads (of_inputs c.in_err-moves.ensures.reads)))

-- they are judged
pub returns-clause-answer : goal.returns-clause-answer
returns-clause-answer g c =
    moves_judged c.args.patch.now c.args.plan.now c.in_ok-ctx.ctx c.in_ok-stored.stored (g.H.Host.told c.args.host.now)
    c.in_ok-goal.goal c.in_ok-moves.moves c.accept.result
    c.in_ok-ctx.ensures.answer (rw c.in_ok-ctx.ensures.reads.state at c.in_ok-stored.ensures.answer)
    (rw (c.in_ok-stored.ensures.reads.state, c.in_ok-ctx.ensures.reads.state) at c.in_ok-goal.ensures.answer)
    (rw (c.in_ok-goal.ensures.reads.state, c.in_ok-stored.ensures.reads.state, c.in_ok-ctx.ensures.reads.state) at
    c.in_ok-moves.ensures.answer)
    c.accept.ensures.answer c.accept.ensures.cause

pub returns-clause-cause : goal.returns-clause-cause
returns-clause-cause g c =
    always_refuses c.accept.result (g.H.Host.counts c.args.host.now) (g.H.Host.counts c.input_plan.new.host)
    c.accept.ensures.cause

pub returns-clause-reads : goal.returns-clause-reads
returns-clause-reads g c =
    reads_both g.met.H.Host.continues (of_inputs c.in_ok-ctx.ensures.reads)
    (reads_both g.met.H.Host.continues (of_files c.in_ok-stored.ensures.reads)
    (reads_both g.met.H.Host.continues c.in_ok-goal.ensures.reads (of_inputs c.in_ok-moves.ensures.reads)))
