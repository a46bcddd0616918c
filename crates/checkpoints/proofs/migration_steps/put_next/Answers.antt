use Rattle.checkpoints.proofs.PutFiles.{item_there}
use Rattle.checkpoints.proofs.MigrationSteps.{is_due, is_settled, put_stops, puts, putting}
use Rattle.checkpoints.proofs.migration_steps.put_next.Goals as goal

pub put_one-requires-clause-ready : goal.put_one-requires-clause-ready
put_one-requires-clause-ready g c = is_settled c.args.migration.now c.args.k c.requires.stage.0 (g.H.Host.told c.args.host.now) c.requires.stage.1

pub put_one-requires-clause-due : goal.put_one-requires-clause-due
put_one-requires-clause-due g c =
    let here = item_there c.args.migration.now c.args.k c.requires.within in
    is_due c.args.migration.now c.args.k here.0 here.1 c.requires.stage.0 (g.H.Host.told c.args.host.now) c.requires.stage.1

pub returns-in-Ok-clause-ok : goal.returns-in-Ok-clause-ok
returns-in-Ok-clause-ok g c =
    let here = item_there c.args.migration.now c.args.k c.requires.within in
    λ began at. puts c.args.migration.now c.args.k here.0 here.1 began (g.H.Host.told c.args.host.now) (g.H.Host.told c.put_one.new.host) at c.in-Ok.ensures.ok

pub returns-in-Ok-clause-any_moment : goal.returns-in-Ok-clause-any_moment
returns-in-Ok-clause-any_moment g c =
    let here = item_there c.args.migration.now c.args.k c.requires.within in
    λ began at.
    putting c.args.migration.now c.args.k here.0 here.1 g.H.Host.moment g.H.Host.left_since began (g.H.Host.told c.args.host.now) c.args.host.now c.put_one.new.host at c.put_one.ensures.any_moment

pub returns-in-Err-clause-err : goal.returns-in-Err-clause-err
returns-in-Err-clause-err g c =
    let here = item_there c.args.migration.now c.args.k c.requires.within in
    λ began at. put_stops c.args.migration.now c.args.k here.0 here.1 began (g.H.Host.told c.args.host.now) (g.H.Host.told c.put_one.new.host) at c.in-Err.ensures.err

pub returns-in-Err-clause-any_moment : goal.returns-in-Err-clause-any_moment
returns-in-Err-clause-any_moment g c =
    let here = item_there c.args.migration.now c.args.k c.requires.within in
    λ began at.
    putting c.args.migration.now c.args.k here.0 here.1 g.H.Host.moment g.H.Host.left_since began (g.H.Host.told c.args.host.now) c.args.host.now c.put_one.new.host at c.put_one.ensures.any_moment
