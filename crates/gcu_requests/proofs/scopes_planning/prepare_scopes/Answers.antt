-- What a change of several scopes needs, or what is refused, at each of its readings.
use Rattle.std.proofs.Common.{map, refl, ap, ◌∙◌}
use Rattle.std.proofs.lemmas.Result.{err_from_is_err_and}
use Rattle.patch_core.specs.Operation.{operations}
use Rattle.scopes.specs.declared.splitting.Scoped.{Scoped}
use Rattle.gcu_inputs.proofs.Reading.{of_files, of_inputs, reads_both}
use Rattle.gcu_requests.proofs.ScopeOrder.{in_order}
use Rattle.gcu_requests.proofs.ScopesPreparing.{no_parts, no_scopes, no_scopes_ctx, no_scopes_patch, scopes_closed, scopes_found}
use Rattle.gcu_requests.proofs.ViewEnds.{still_clean, still_elapsed, still_on}
use Rattle.gcu_requests.proofs.scopes_planning.prepare_scopes.Goals as goal

-- nothing is pending, since nothing was at the beginning
pub read_scopes-requires-clause-ready : goal.read_scopes-requires-clause-ready
read_scopes-requires-clause-ready g c =
    still_clean (g.H.Host.told c.args.host.now) (g.H.Host.told c.input_patch.new.host)
    (c.input_patch.ensures.reads.state ∙ c.input_ctx.ensures.reads.state ∙ c.test_uninterrupted.ensures.reads.state)
    c.requires.ready

pub returns-in_err-test_uninterrupted-clause-answer : goal.returns-in_err-test_uninterrupted-clause-answer
returns-in_err-test_uninterrupted-clause-answer g c =
    let p = err_from_is_err_and c.from_residual.result c.from_residual.ensures.1 in
    rw (p.1, p.2)
    (scopes_closed c.args.path.now c.args.budget (g.H.Host.told c.args.host.now)
    c.in_err-test_uninterrupted.field-0.0 c.in_err-test_uninterrupted.ensures.answer)

pub returns-in_err-ctx-clause-answer : goal.returns-in_err-ctx-clause-answer
returns-in_err-ctx-clause-answer g c =
    let p = err_from_is_err_and c.from_residual-in_err-ctx.result c.from_residual-in_err-ctx.ensures.1 in
    rw (p.1, p.2)
    (no_scopes_ctx c.args.path.now c.args.budget (g.H.Host.told c.args.host.now) tt
    c.in_ok-test_uninterrupted.ensures.answer c.in_err-ctx.field-0.0 (rw c.test_uninterrupted.ensures.reads.state at
    c.in_err-ctx.ensures.answer))

pub returns-in_err-patch-clause-answer : goal.returns-in_err-patch-clause-answer
returns-in_err-patch-clause-answer g c =
    let p = err_from_is_err_and c.from_residual-in_err-patch.result c.from_residual-in_err-patch.ensures.1 in
    rw (p.1, p.2)
    (no_scopes_patch c.args.path.now c.args.budget (g.H.Host.told c.args.host.now) tt
    c.in_ok-test_uninterrupted.ensures.answer
    c.in_ok-ctx.ctx (rw c.test_uninterrupted.ensures.reads.state at c.in_ok-ctx.ensures.answer) c.in_err-patch.field-0.0
    (rw (c.input_ctx.ensures.reads.state, c.test_uninterrupted.ensures.reads.state) at c.in_err-patch.ensures.answer))

pub returns-in_err-parts-clause-answer : goal.returns-in_err-parts-clause-answer
returns-in_err-parts-clause-answer g c =
    let p = err_from_is_err_and c.from_residual-in_err-parts.result c.from_residual-in_err-parts.ensures.1 in
    rw (p.1, p.2)
    (no_parts c.args.path.now c.args.budget (g.H.Host.told c.args.host.now) tt c.in_ok-test_uninterrupted.ensures.answer
    c.in_ok-ctx.ctx (rw c.test_uninterrupted.ensures.reads.state at c.in_ok-ctx.ensures.answer)
    c.in_ok-patch.patch (rw (c.input_ctx.ensures.reads.state, c.test_uninterrupted.ensures.reads.state) at
    c.in_ok-patch.ensures.answer) c.in_err-parts.field-0.0 c.in_err-parts.ensures.answer)

pub returns-in_err-scopes-clause-answer : goal.returns-in_err-scopes-clause-answer
returns-in_err-scopes-clause-answer g c =
    let p = err_from_is_err_and c.from_residual-in_err-scopes.result c.from_residual-in_err-scopes.ensures.1 in
    rw (p.1, p.2)
    (no_scopes c.args.path.now c.args.budget (g.H.Host.told c.args.host.now) tt
    c.in_ok-test_uninterrupted.ensures.answer
    c.in_ok-ctx.ctx (rw c.test_uninterrupted.ensures.reads.state at c.in_ok-ctx.ensures.answer)
    c.in_ok-patch.patch (rw (c.input_ctx.ensures.reads.state, c.test_uninterrupted.ensures.reads.state) at
    c.in_ok-patch.ensures.answer)
    c.in_ok-parts.parts c.in_ok-parts.ensures.answer c.in_err-scopes.field-0.0 (g.H.Host.told c.input_patch.new.host)
    c.as_slice.result.now
    (c.input_patch.ensures.reads.state ∙ c.input_ctx.ensures.reads.state ∙ c.test_uninterrupted.ensures.reads.state)
    c.as_slice.ensures.value (c.in_err-scopes.ensures.answer c.args.budget))

pub returns-clause-answer : goal.returns-clause-answer
returns-clause-answer g c =
    scopes_found c.args.path.now c.args.budget (g.H.Host.told c.args.host.now) tt
    c.in_ok-test_uninterrupted.ensures.answer
    c.in_ok-ctx.ctx (rw c.test_uninterrupted.ensures.reads.state at c.in_ok-ctx.ensures.answer)
    c.in_ok-patch.patch (rw (c.input_ctx.ensures.reads.state, c.test_uninterrupted.ensures.reads.state) at
    c.in_ok-patch.ensures.answer)
    c.in_ok-parts.parts c.in_ok-parts.ensures.answer _ (g.H.Host.told c.input_patch.new.host) c.as_slice.result.now refl
    (c.input_patch.ensures.reads.state ∙ c.input_ctx.ensures.reads.state ∙ c.test_uninterrupted.ensures.reads.state)
    c.as_slice.ensures.value (c.in_ok-scopes.ensures.answer c.args.budget)

pub returns-clause-order : goal.returns-clause-order
returns-clause-order g c =
    in_order (operations c.in_ok-patch.patch) c.in_ok-parts.parts.items _ c.in_ok-parts.ensures.answer.gives
    (c.in_ok-scopes.ensures.scopes ∙ ap (map (λ (p : Scoped). p.scope)) c.as_slice.ensures.value)

-- ---- the host

pub returns-in_err-test_uninterrupted-clause-still : goal.returns-in_err-test_uninterrupted-clause-still
returns-in_err-test_uninterrupted-clause-still g c =
    still_elapsed g.H.Host.told g.H.Host.moment g.H.Host.left_since c.args.host.now c.test_uninterrupted.new.host
    c.test_uninterrupted.ensures.reads.state c.test_uninterrupted.ensures.reads.time

pub returns-in_err-ctx-clause-still : goal.returns-in_err-ctx-clause-still
returns-in_err-ctx-clause-still g c =
    let reads = reads_both g.met.H.Host.continues (of_files c.test_uninterrupted.ensures.reads)
    (of_inputs c.input_ctx.ensures.reads) in
    still_elapsed g.H.Host.told g.H.Host.moment g.H.Host.left_since c.args.host.now c.input_ctx.new.host reads.state
    reads.time

pub returns-in_err-patch-clause-still : goal.returns-in_err-patch-clause-still
returns-in_err-patch-clause-still g c =
    let reads = reads_both g.met.H.Host.continues
    (reads_both g.met.H.Host.continues (of_files c.test_uninterrupted.ensures.reads)
    (of_inputs c.input_ctx.ensures.reads))
    (of_inputs c.input_patch.ensures.reads) in
    still_elapsed g.H.Host.told g.H.Host.moment g.H.Host.left_since c.args.host.now c.input_patch.new.host reads.state
    reads.time

pub returns-in_err-parts-clause-still : goal.returns-in_err-parts-clause-still
returns-in_err-parts-clause-still g c =
    let reads = reads_both g.met.H.Host.continues
    (reads_both g.met.H.Host.continues (of_files c.test_uninterrupted.ensures.reads)
    (of_inputs c.input_ctx.ensures.reads))
    (of_inputs c.input_patch.ensures.reads) in
    still_elapsed g.H.Host.told g.H.Host.moment g.H.Host.left_since c.args.host.now c.input_patch.new.host reads.state
    reads.time

pub returns-in_err-scopes-clause-still : goal.returns-in_err-scopes-clause-still
returns-in_err-scopes-clause-still g c =
    let reads = reads_both g.met.H.Host.continues
    (reads_both g.met.H.Host.continues (of_files c.test_uninterrupted.ensures.reads)
    (of_inputs c.input_ctx.ensures.reads))
    (of_inputs c.input_patch.ensures.reads) in
    still_on g.H.Host.told g.H.Host.moment g.H.Host.left_since c.args.host.now c.input_patch.new.host
    c.read_scopes.new.host
    (still_elapsed g.H.Host.told g.H.Host.moment g.H.Host.left_since c.args.host.now c.input_patch.new.host reads.state
    reads.time) c.read_scopes.ensures.still

pub returns-clause-still : goal.returns-clause-still
returns-clause-still g c =
    let reads = reads_both g.met.H.Host.continues
    (reads_both g.met.H.Host.continues (of_files c.test_uninterrupted.ensures.reads)
    (of_inputs c.input_ctx.ensures.reads))
    (of_inputs c.input_patch.ensures.reads) in
    still_on g.H.Host.told g.H.Host.moment g.H.Host.left_since c.args.host.now c.input_patch.new.host
    c.read_scopes.new.host
    (still_elapsed g.H.Host.told g.H.Host.moment g.H.Host.left_since c.args.host.now c.input_patch.new.host reads.state
    reads.time) c.read_scopes.ensures.still

pub returns-in_err-ctx-clause-goes : goal.returns-in_err-ctx-clause-goes
returns-in_err-ctx-clause-goes g c =
    let reads = reads_both g.met.H.Host.continues (of_files c.test_uninterrupted.ensures.reads)
    (of_inputs c.input_ctx.ensures.reads) in reads.goes

pub returns-in_err-patch-clause-goes : goal.returns-in_err-patch-clause-goes
returns-in_err-patch-clause-goes g c =
    let reads = reads_both g.met.H.Host.continues
    (reads_both g.met.H.Host.continues (of_files c.test_uninterrupted.ensures.reads)
    (of_inputs c.input_ctx.ensures.reads))
    (of_inputs c.input_patch.ensures.reads) in reads.goes

pub returns-in_err-parts-clause-goes : goal.returns-in_err-parts-clause-goes
returns-in_err-parts-clause-goes g c =
    let reads = reads_both g.met.H.Host.continues
    (reads_both g.met.H.Host.continues (of_files c.test_uninterrupted.ensures.reads)
    (of_inputs c.input_ctx.ensures.reads))
    (of_inputs c.input_patch.ensures.reads) in reads.goes

pub returns-in_err-scopes-clause-goes : goal.returns-in_err-scopes-clause-goes
returns-in_err-scopes-clause-goes g c =
    let reads = reads_both g.met.H.Host.continues
    (reads_both g.met.H.Host.continues (of_files c.test_uninterrupted.ensures.reads)
    (of_inputs c.input_ctx.ensures.reads))
    (of_inputs c.input_patch.ensures.reads) in
    g.met.H.Host.continues c.args.host.now c.input_patch.new.host c.read_scopes.new.host reads.goes
    c.read_scopes.ensures.goes

pub returns-clause-goes : goal.returns-clause-goes
returns-clause-goes g c =
    let reads = reads_both g.met.H.Host.continues
    (reads_both g.met.H.Host.continues (of_files c.test_uninterrupted.ensures.reads)
    (of_inputs c.input_ctx.ensures.reads))
    (of_inputs c.input_patch.ensures.reads) in
    g.met.H.Host.continues c.args.host.now c.input_patch.new.host c.read_scopes.new.host reads.goes
    c.read_scopes.ensures.goes
