use Rattle.std.proofs.Common.{◌∙◌}
use Rattle.command_answers.proofs.Causes.{print_fell}
use Rattle.scope_commands.proofs.ScopesEnding.{scopes_left, text_left, text_printed}
use Rattle.scope_commands.proofs.change_scopes.do_scopes.Goals as goal

pub returns-in-Ok-clause-answers : goal.returns-in-Ok-clause-answers
returns-in-Ok-clause-answers g c =
    text_printed c.args.ready.now.changes (g.H.Host.told c.args.host.now) (g.H.Host.told c.print.new.self)
    (g.H.Host.told c.do_works.new.host) c.deref.result.now
    (g.H.Host.counts c.args.host.now) (g.H.Host.counts c.print.new.self) (g.H.Host.counts c.do_works.new.host)
    c.do_works.result
    (c.deref.ensures.value ∙ c.requires.bytes.text) c.in-Ok.ensures.ok
    (print_fell (g.H.Host.counts c.args.host.now) (g.H.Host.counts c.print.new.self) c.print.ensures.counts)
    c.do_works.ensures.answers

pub returns-in-Ok-clause-any_moment : goal.returns-in-Ok-clause-any_moment
returns-in-Ok-clause-any_moment g c =
    scopes_left g.H.Host.moment g.H.Host.left_since c.args.ready.now.changes (g.H.Host.told c.args.host.now)
    (g.H.Host.told c.print.new.self) c.deref.result.now
    c.args.host.now c.print.new.self c.do_works.new.host (c.deref.ensures.value ∙ c.requires.bytes.text)
    c.in-Ok.ensures.ok
    (λ left since. g.met.H.Host.only_now c.args.host.now left since) c.print.ensures.time c.do_works.ensures.any_moment

pub returns-in-Err-clause-any_moment : goal.returns-in-Err-clause-any_moment
returns-in-Err-clause-any_moment g c =
    text_left g.H.Host.moment g.H.Host.left_since c.args.ready.now.changes (g.H.Host.told c.args.host.now)
    c.deref.result.now
    c.args.host.now c.print.new.self (c.deref.ensures.value ∙ c.requires.bytes.text)
    (λ left since. g.met.H.Host.only_now c.args.host.now left since) c.print.ensures.time
