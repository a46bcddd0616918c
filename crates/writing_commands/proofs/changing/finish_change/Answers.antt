use Rattle.std.proofs.Common.{◌≡◌, true, false, rules, subst, IfSome}
use Rattle.writing_commands.specs.Doing.{ClosesAs}
use Rattle.writing_commands.proofs.Closing.{opened_ends, opened_leaves}
use Rattle.writing_commands.proofs.changing.finish_change.Goals as goal

pub close_stopped-requires-clause-over : goal.close_stopped-requires-clause-over
close_stopped-requires-clause-over g c =
    let is : c.args.change.now.closes ≡ true = search rules in
    subst (λ b. IfSome (g.H.Host.told c.args.host.now) (λ s. ClosesAs b c.args.change.now.ready s.files)) is
    c.requires.closes

pub do_steps-requires-clause-closed : goal.do_steps-requires-clause-closed
do_steps-requires-clause-closed g c =
    let isnt : c.args.change.now.closes ≡ false = search rules in
    subst (λ b. IfSome (g.H.Host.told c.args.host.now) (λ s. ClosesAs b c.args.change.now.ready s.files)) isnt
    c.requires.closes

pub returns-clause-answers : goal.returns-clause-answers
returns-clause-answers g c =
    opened_ends c.args.change.now.ready (g.H.Host.told c.args.host.now) (g.H.Host.told c.do_steps.new.host)
    (g.H.Host.counts c.args.host.now) (g.H.Host.counts c.do_steps.new.host) c.do_steps.result
    c.do_steps.ensures.answers

pub returns-clause-any_moment : goal.returns-clause-any_moment
returns-clause-any_moment g c =
    opened_leaves c.args.change.now.ready g.H.Host.moment g.H.Host.left_since (g.H.Host.told c.args.host.now)
    c.args.host.now c.do_steps.new.host c.do_steps.ensures.any_moment
