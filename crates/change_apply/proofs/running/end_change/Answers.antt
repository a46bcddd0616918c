use Rattle.change_apply.specs.Work.{change_in}
use Rattle.change_apply.proofs.Moments.{joins}
use Rattle.change_apply.proofs.running.end_change.Goals as goal

pub returns-clause-any_moment : goal.returns-clause-any_moment
returns-clause-any_moment g c =
    λ began at.
    joins g.H.Host.moment g.H.Host.left_since (change_in c.args.work.now) began c.args.host.now c.fold_last.new.host c.remove_intent.new.host
    (c.fold_last.ensures.any_moment began at) (c.remove_intent.ensures.any_moment began (c.in_ok-fold_last.ensures.ok began at))
