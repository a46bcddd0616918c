use Rattle.checkpoints.proofs.MigrationMoments.{joins}
use Rattle.checkpoints.proofs.migration_steps.do_step.Goals as goal

pub returns-clause-any_moment : goal.returns-clause-any_moment
returns-clause-any_moment g c =
    λ began at.
    joins g.H.Host.moment g.H.Host.left_since c.args.migration.now began c.args.host.now c.put_next.new.host c.tell_next.new.host
    (c.put_next.ensures.any_moment began at) (c.tell_next.ensures.any_moment began (c.in_ok-put_next.ensures.ok began at))
