use Rattle.std.proofs.Common.{◌∙◌}
use Rattle.change_apply.specs.Work.{change_in}
use Rattle.change_apply.proofs.DueSteps.{due_here, is_printed, isnt_printed, while_printed}
use Rattle.change_apply.proofs.acknowledging.acknowledge.Goals as goal

pub returns-in-Ok-clause-ok : goal.returns-in-Ok-clause-ok
returns-in-Ok-clause-ok g c =
    let s = c.at.result.now in
    let ready = (c.requires.ready.steps_ready c.args.k s c.at.ensures).0 in
    λ began at.
    is_printed (change_in c.args.work.now) c.args.k s.mv (due_here c.args.work.now c.args.k s c.at.ensures c.requires.ready c.requires.within)
    c.as_bytes.result.now (c.as_bytes.ensures.value ∙ c.as_str-line.ensures.text ∙ ready.line)
    began (g.H.Host.told c.args.host.now) (g.H.Host.told c.print.new.self) at c.in-Ok.ensures.ok

pub returns-in-Ok-clause-any_moment : goal.returns-in-Ok-clause-any_moment
returns-in-Ok-clause-any_moment g c =
    let s = c.at.result.now in
    let ready = (c.requires.ready.steps_ready c.args.k s c.at.ensures).0 in
    λ began at.
    while_printed (change_in c.args.work.now) c.args.k s.mv (due_here c.args.work.now c.args.k s c.at.ensures c.requires.ready c.requires.within)
    c.as_bytes.result.now (c.as_bytes.ensures.value ∙ c.as_str-line.ensures.text ∙ ready.line)
    g.H.Host.moment g.H.Host.left_since g.H.Host.told began c.args.host.now c.print.new.self at (λ left since. g.met.H.Host.only_now c.args.host.now left since) c.print.ensures.time

pub returns-in-Err-clause-err : goal.returns-in-Err-clause-err
returns-in-Err-clause-err g c =
    let s = c.at.result.now in
    let ready = (c.requires.ready.steps_ready c.args.k s c.at.ensures).0 in
    λ began at.
    isnt_printed (change_in c.args.work.now) c.args.k s.mv (due_here c.args.work.now c.args.k s c.at.ensures c.requires.ready c.requires.within)
    c.as_bytes.result.now (c.as_bytes.ensures.value ∙ c.as_str-line.ensures.text ∙ ready.line)
    began (g.H.Host.told c.args.host.now) (g.H.Host.told c.print.new.self) at c.in-Err.ensures.err

pub returns-in-Err-clause-any_moment : goal.returns-in-Err-clause-any_moment
returns-in-Err-clause-any_moment g c =
    let s = c.at.result.now in
    let ready = (c.requires.ready.steps_ready c.args.k s c.at.ensures).0 in
    λ began at.
    while_printed (change_in c.args.work.now) c.args.k s.mv (due_here c.args.work.now c.args.k s c.at.ensures c.requires.ready c.requires.within)
    c.as_bytes.result.now (c.as_bytes.ensures.value ∙ c.as_str-line.ensures.text ∙ ready.line)
    g.H.Host.moment g.H.Host.left_since g.H.Host.told began c.args.host.now c.print.new.self at (λ left since. g.met.H.Host.only_now c.args.host.now left since) c.print.ensures.time
