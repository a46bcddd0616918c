use Rattle.std.proofs.Common.{ap, sym, ◌∙◌}
use Rattle.gcu_requests.proofs.ViewEnds.{answer_viewed, stands_viewed, still_viewed}
use Rattle.gcu_requests.proofs.scopes_planning.view_ends.Goals as goal

pub returns-clause-answer : goal.returns-clause-answer
returns-clause-answer g c = λ budget.
    answer_viewed c.args.part.now.scope c.new-view.result.scope (g.H.Host.told c.args.host.now)
    (g.H.Host.told c.new-view.result.host.now)
    c.new-view.ensures.scope (ap g.H.Host.told c.new-view.ensures.host) _ _ _ (c.read_ends.ensures.answer budget)

pub returns-clause-stands : goal.returns-clause-stands
returns-clause-stands g c =
    stands_viewed c.args.part.now.scope c.new-view.result.scope (g.H.Host.told c.args.host.now)
    (g.H.Host.told c.new-view.result.host.now)
    c.new-view.ensures.scope (ap g.H.Host.told c.new-view.ensures.host) c.read_ends.result c.read_ends.ensures.stands

pub returns-clause-still : goal.returns-clause-still
returns-clause-still g c =
    still_viewed g.H.Host.told g.H.Host.moment g.H.Host.left_since c.args.part.now.scope c.new-view.result.scope
    c.read_ends.new.host.scope
    c.args.host.now c.new-view.result.host.now _ c.read_ends.new.host.host.now
    c.new-view.ensures.scope c.read_ends.ensures.reads.goes.1 c.new-view.ensures.host
    (c.host-1.given.1 (sym (c.read_ends.ensures.reads.goes.0 ∙ c.new-view.ensures.same_reference)))
    c.requires.ready c.read_ends.ensures.reads.state c.read_ends.ensures.reads.time.nothing_else
    c.read_ends.ensures.reads.goes.3
