use Rattle.std.proofs.Common.{length, take_all, arith}
use Rattle.std.proofs.lemmas.Result.{IfErr-weaker, on_ok_weaker}
use Rattle.checkpoints.proofs.MigrationSteps.{at_beginning, at_end}
use Rattle.checkpoints.proofs.migration_run.migrate.Goals as goal

pub do_steps-requires-clause-stage : goal.do_steps-requires-clause-stage
do_steps-requires-clause-stage g c =
    (g.H.Host.told c.args.host.now, at_beginning c.args.migration.now (g.H.Host.told c.args.host.now) c.requires.clean c.requires.due)

pub returns-clause-ok : goal.returns-clause-ok
returns-clause-ok g c =
    let old = g.H.Host.told c.args.host.now in
    let at = at_beginning c.args.migration.now old c.requires.clean c.requires.due in
    on_ok_weaker c.do_steps.result
    (λ leads. at_end c.args.migration.now old (g.H.Host.told c.do_steps.new.host) (take_all (length c.args.migration.now) c.args.migration.now (omega arith)) (leads old at))
    c.do_steps.ensures.ok

pub returns-clause-err : goal.returns-clause-err
returns-clause-err g c =
    let old = g.H.Host.told c.args.host.now in
    let at = at_beginning c.args.migration.now old c.requires.clean c.requires.due in
    IfErr-weaker c.do_steps.result _ _ (λ fault leads. leads old at) c.do_steps.ensures.err

pub returns-clause-any_moment : goal.returns-clause-any_moment
returns-clause-any_moment g c =
    let old = g.H.Host.told c.args.host.now in
    c.do_steps.ensures.any_moment old (at_beginning c.args.migration.now old c.requires.clean c.requires.due)
