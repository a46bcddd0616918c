use Rattle.command_answers.proofs.Causes.{print_fell}
use Rattle.writing_commands.proofs.ChangeBegins.{all_printed, doing_leaves, print_left}
use Rattle.writing_commands.proofs.changing.do_change.Goals as goal

pub returns-in-Ok-clause-answers : goal.returns-in-Ok-clause-answers
returns-in-Ok-clause-answers g c =
    all_printed c.args.change.now.text.items c.args.change.now.ready (g.H.Host.told c.args.host.now)
    (g.H.Host.told c.print.new.self) (g.H.Host.told c.finish_change.new.host)
    (g.H.Host.counts c.args.host.now) (g.H.Host.counts c.print.new.self) (g.H.Host.counts c.finish_change.new.host)
    c.finish_change.result
    (rw c.deref.ensures.value at c.in-Ok.ensures.ok)
    (print_fell (g.H.Host.counts c.args.host.now) (g.H.Host.counts c.print.new.self) c.print.ensures.counts)
    c.finish_change.ensures.answers

pub returns-in-Ok-clause-any_moment : goal.returns-in-Ok-clause-any_moment
returns-in-Ok-clause-any_moment g c =
    doing_leaves g.H.Host.moment g.H.Host.left_since c.args.change.now.text.items c.args.change.now.ready
    (g.H.Host.told c.args.host.now) (g.H.Host.told c.print.new.self)
    c.args.host.now c.print.new.self c.finish_change.new.host (rw c.deref.ensures.value at c.in-Ok.ensures.ok)
    (λ left since. g.met.H.Host.only_now c.args.host.now left since) (rw c.deref.ensures.value at c.print.ensures.time)
    c.finish_change.ensures.any_moment

pub returns-in-Err-clause-any_moment : goal.returns-in-Err-clause-any_moment
returns-in-Err-clause-any_moment g c =
    print_left g.H.Host.moment g.H.Host.left_since c.args.change.now.text.items c.args.change.now.ready
    (g.H.Host.told c.args.host.now)
    c.args.host.now c.print.new.self
    (λ left since. g.met.H.Host.only_now c.args.host.now left since) (rw c.deref.ensures.value at c.print.ensures.time)
