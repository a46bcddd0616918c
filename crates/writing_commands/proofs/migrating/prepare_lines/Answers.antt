use Rattle.std.proofs.lemmas.Result.{err_from_is_err_and}
use Rattle.gcu_requests.specs.Asked.{old_asked}
use Rattle.gcu_inputs.proofs.Finding.{memory_found}
use Rattle.writing_commands.proofs.MigrationReadiness.{found_ready, of_ready, refused_ready}
use Rattle.writing_commands.proofs.migrating.prepare_lines.Goals as goal

pub returns-in_err-migration-clause-answer : goal.returns-in_err-migration-clause-answer
returns-in_err-migration-clause-answer g c =
    let p = err_from_is_err_and c.from_residual.result c.from_residual.ensures.1 in
    rw (p.1, p.2)
    (refused_ready (g.H.Host.told c.args.host.now) c.in_err-migration.field-0.0 c.in_err-migration.ensures.answer)

pub returns-in_err-ready-clause-answer : goal.returns-in_err-ready-clause-answer
returns-in_err-ready-clause-answer g c =
    let p = err_from_is_err_and c.from_residual-in_err-ready.result c.from_residual-in_err-ready.ensures.1 in
    rw (p.1, p.2) (memory_found of_ready (g.H.Host.told c.args.host.now) old_asked)

pub returns-clause-answer : goal.returns-clause-answer
returns-clause-answer g c =
    found_ready (g.H.Host.told c.args.host.now) c.in_ok-migration.migration c.in_ok-ready.ready
    c.in_ok-ready.ensures.same c.in_ok-migration.ensures.answer
