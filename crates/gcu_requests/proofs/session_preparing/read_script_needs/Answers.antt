-- What a script of operators needs, or what is refused, at each of its readings.
use Rattle.std.proofs.Common.{refl}
use Rattle.std.proofs.lemmas.Result.{err_from_is_err_and}
use Rattle.gcu_inputs.proofs.Reading.{of_files, of_inputs, reads_both}
use Rattle.gcu_requests.proofs.SessionFinding.{no_script_ctx, no_script_lines, no_script_patches, no_script_start, script_ready}
use Rattle.gcu_requests.proofs.session_preparing.read_script_needs.Goals as goal

-- there is nothing to judge by
pub returns-in_err-ctx-clause-answer : goal.returns-in_err-ctx-clause-answer
returns-in_err-ctx-clause-answer g c =
    let p = err_from_is_err_and c.from_residual.result c.from_residual.ensures.1 in
    rw (p.1, p.2)
    (no_script_ctx c.args.path.now c.args.budget (g.H.Host.told c.args.host.now)
    c.in_err-ctx.field-0.0 c.in_err-ctx.ensures.answer)

-- there is no start
pub returns-in_err-stored-clause-answer : goal.returns-in_err-stored-clause-answer
returns-in_err-stored-clause-answer g c =
    let p = err_from_is_err_and c.from_residual-in_err-stored.result c.from_residual-in_err-stored.ensures.1 in
    rw (p.1, p.2)
    (no_script_start c.args.path.now c.args.budget (g.H.Host.told c.args.host.now)
    c.in_ok-ctx.ctx c.in_err-stored.field-0.0 c.in_ok-ctx.ensures.answer
    (rw c.in_ok-ctx.ensures.reads.state at c.in_err-stored.ensures.answer))

-- there are no lines
pub returns-in_err-script-clause-answer : goal.returns-in_err-script-clause-answer
returns-in_err-script-clause-answer g c =
    let p = err_from_is_err_and c.from_residual-in_err-script.result c.from_residual-in_err-script.ensures.1 in
    rw (p.1, p.2)
    (no_script_lines c.args.path.now c.args.budget (g.H.Host.told c.args.host.now)
    c.in_ok-ctx.ctx c.in_ok-stored.stored c.in_err-script.field-0.0 c.in_ok-ctx.ensures.answer
    (rw c.in_ok-ctx.ensures.reads.state at c.in_ok-stored.ensures.answer)
    (rw (c.in_ok-stored.ensures.reads.state, c.in_ok-ctx.ensures.reads.state) at c.in_err-script.ensures.answer))

-- a patch can't be read
pub returns-in_err-patches-clause-answer : goal.returns-in_err-patches-clause-answer
returns-in_err-patches-clause-answer g c =
    let p = err_from_is_err_and c.from_residual-in_err-patches.result c.from_residual-in_err-patches.ensures.1 in
    rw (p.1, p.2)
    (no_script_patches c.args.path.now c.args.budget (g.H.Host.told c.args.host.now)
    c.in_ok-ctx.ctx c.in_ok-stored.stored c.in_ok-script.script c.in_err-patches.field-0.0 c.in_ok-ctx.ensures.answer
    (rw c.in_ok-ctx.ensures.reads.state at c.in_ok-stored.ensures.answer)
    (rw (c.in_ok-stored.ensures.reads.state, c.in_ok-ctx.ensures.reads.state) at c.in_ok-script.ensures.answer)
    (rw (
      c.in_ok-script.ensures.reads.state,
      c.in_ok-stored.ensures.reads.state,
      c.in_ok-ctx.ensures.reads.state,
      c.items.ensures,
      c.new.ensures,
    ) at c.in_err-patches.ensures.answer))

-- there is all that a script needs
pub returns-clause-answer : goal.returns-clause-answer
returns-clause-answer g c =
    script_ready c.args.path.now c.args.budget (g.H.Host.told c.args.host.now) _ refl c.in_ok-ctx.ensures.answer
    (rw c.in_ok-ctx.ensures.reads.state at c.in_ok-stored.ensures.answer)
    (rw (c.in_ok-stored.ensures.reads.state, c.in_ok-ctx.ensures.reads.state) at c.in_ok-script.ensures.answer)
    (rw (
      c.in_ok-script.ensures.reads.state,
      c.in_ok-stored.ensures.reads.state,
      c.in_ok-ctx.ensures.reads.state,
      c.items.ensures,
      c.new.ensures,
    ) at c.in_ok-patches.ensures.answer)

-- ---- what is left as it was

pub returns-in_err-patches-clause-reads : goal.returns-in_err-patches-clause-reads
returns-in_err-patches-clause-reads g c =
    reads_both g.met.H.Host.continues
    (reads_both g.met.H.Host.continues
    (reads_both g.met.H.Host.continues (of_inputs c.in_ok-ctx.ensures.reads) (of_files c.in_ok-stored.ensures.reads))
    (of_inputs c.in_ok-script.ensures.reads))
    (of_inputs c.in_err-patches.ensures.reads)

pub returns-clause-reads : goal.returns-clause-reads
returns-clause-reads g c =
    reads_both g.met.H.Host.continues
    (reads_both g.met.H.Host.continues
    (reads_both g.met.H.Host.continues (of_inputs c.in_ok-ctx.ensures.reads) (of_files c.in_ok-stored.ensures.reads))
    (of_inputs c.in_ok-script.ensures.reads))
    (of_inputs c.in_ok-patches.ensures.reads)
