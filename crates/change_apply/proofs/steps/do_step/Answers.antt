use Rattle.change_apply.specs.Work.{change_in}
use Rattle.change_apply.proofs.Moments.{joins}
use Rattle.change_apply.proofs.steps.do_step.Goals as goal

pub returns-in_err-restart_services-clause-any_moment : goal.returns-in_err-restart_services-clause-any_moment
returns-in_err-restart_services-clause-any_moment g c =
    λ began at.
    joins g.H.Host.moment g.H.Host.left_since (change_in c.args.work.now) began c.args.host.now c.put_next.new.host c.restart_services.new.host
    (c.put_next.ensures.any_moment began at) (c.restart_services.ensures.any_moment began (c.in_ok-put_next.ensures.ok began at))

pub returns-clause-any_moment : goal.returns-clause-any_moment
returns-clause-any_moment g c =
    λ began at.
    let put = c.in_ok-put_next.ensures.ok began at in
    joins g.H.Host.moment g.H.Host.left_since (change_in c.args.work.now) began c.args.host.now c.restart_services.new.host c.acknowledge.new.host
    (joins g.H.Host.moment g.H.Host.left_since (change_in c.args.work.now) began c.args.host.now c.put_next.new.host c.restart_services.new.host
    (c.put_next.ensures.any_moment began at) (c.restart_services.ensures.any_moment began put))
    (c.acknowledge.ensures.any_moment began (c.in_ok-restart_services.ensures.ok began put))
