use Rattle.std.proofs.Common.{suc, ap, ◌∙◌}
use Rattle.conf_store.specs.Files.{is_step_name}
use Rattle.change_apply.specs.Work.{change_in}
use Rattle.change_apply.proofs.DueSteps.{can_be_put, due_here, is_put, isnt_put, while_put}
use Rattle.change_apply.proofs.StepNames.{named}
use Rattle.change_apply.proofs.steps.put_next.Goals as goal

pub put_step-requires-clause-named : goal.put_step-requires-clause-named
put_step-requires-clause-named g c =
    let s = c.at-step.result.now in
    ap is_step_name (c.as_str.ensures.text ∙ (c.requires.ready.steps_ready c.args.k s c.at-step.ensures).0.file) ∙ named (suc c.args.k)

pub put_step-requires-clause-next : goal.put_step-requires-clause-next
put_step-requires-clause-next g c =
    let s = c.at-step.result.now in
    let ready = (c.requires.ready.steps_ready c.args.k s c.at-step.ensures).0 in
    can_be_put (change_in c.args.work.now) c.args.k s.mv (due_here c.args.work.now c.args.k s c.at-step.ensures c.requires.ready c.requires.within)
    c.as_str.result.now c.deref.result.now (c.as_str.ensures.text ∙ ready.file) (c.deref.ensures.value ∙ ready.bytes)
    c.requires.stage.0 (g.H.Host.told c.args.host.now) c.requires.stage.1

pub returns-in-Ok-clause-ok : goal.returns-in-Ok-clause-ok
returns-in-Ok-clause-ok g c =
    let s = c.at-step.result.now in
    let ready = (c.requires.ready.steps_ready c.args.k s c.at-step.ensures).0 in
    λ began at.
    is_put (change_in c.args.work.now) c.args.k s.mv (due_here c.args.work.now c.args.k s c.at-step.ensures c.requires.ready c.requires.within)
    c.as_str.result.now c.deref.result.now (c.as_str.ensures.text ∙ ready.file) (c.deref.ensures.value ∙ ready.bytes)
    began (g.H.Host.told c.args.host.now) (g.H.Host.told c.put_step.new.host) at c.in-Ok.ensures.ok

pub returns-in-Ok-clause-any_moment : goal.returns-in-Ok-clause-any_moment
returns-in-Ok-clause-any_moment g c =
    let s = c.at-step.result.now in
    let ready = (c.requires.ready.steps_ready c.args.k s c.at-step.ensures).0 in
    λ began at.
    while_put (change_in c.args.work.now) c.args.k s.mv (due_here c.args.work.now c.args.k s c.at-step.ensures c.requires.ready c.requires.within)
    c.as_str.result.now c.deref.result.now (c.as_str.ensures.text ∙ ready.file) (c.deref.ensures.value ∙ ready.bytes)
    g.H.Host.moment g.H.Host.left_since began (g.H.Host.told c.args.host.now) c.args.host.now c.put_step.new.host at c.put_step.ensures.any_moment

pub returns-in-Err-clause-err : goal.returns-in-Err-clause-err
returns-in-Err-clause-err g c =
    let s = c.at-step.result.now in
    let ready = (c.requires.ready.steps_ready c.args.k s c.at-step.ensures).0 in
    λ began at.
    isnt_put (change_in c.args.work.now) c.args.k s.mv (due_here c.args.work.now c.args.k s c.at-step.ensures c.requires.ready c.requires.within)
    c.as_str.result.now c.deref.result.now (c.as_str.ensures.text ∙ ready.file) (c.deref.ensures.value ∙ ready.bytes)
    began (g.H.Host.told c.args.host.now) (g.H.Host.told c.put_step.new.host) at c.in-Err.ensures.err

pub returns-in-Err-clause-any_moment : goal.returns-in-Err-clause-any_moment
returns-in-Err-clause-any_moment g c =
    let s = c.at-step.result.now in
    let ready = (c.requires.ready.steps_ready c.args.k s c.at-step.ensures).0 in
    λ began at.
    while_put (change_in c.args.work.now) c.args.k s.mv (due_here c.args.work.now c.args.k s c.at-step.ensures c.requires.ready c.requires.within)
    c.as_str.result.now c.deref.result.now (c.as_str.ensures.text ∙ ready.file) (c.deref.ensures.value ∙ ready.bytes)
    g.H.Host.moment g.H.Host.left_since began (g.H.Host.told c.args.host.now) c.args.host.now c.put_step.new.host at c.put_step.ensures.any_moment
