use Rattle.change_apply.specs.Work.{change_in}
use Rattle.change_apply.proofs.Moments.{joins}
use Rattle.change_apply.proofs.running.begin_change.Goals as goal

pub returns-clause-any_moment : goal.returns-clause-any_moment
returns-clause-any_moment g c =
    λ began at.
    joins g.H.Host.moment g.H.Host.left_since (change_in c.args.work.now) began c.args.host.now c.put_intent.new.host c.fold_first.new.host
    (c.put_intent.ensures.any_moment began at) (c.fold_first.ensures.any_moment began (c.in_ok-put_intent.ensures.ok began at))
