use Rattle.std.proofs.Common.{◌∙◌}
use Rattle.change_apply.specs.Work.{change_in}
use Rattle.change_apply.proofs.IntentStages.{clean_at, intended, intending, intent_stops}
use Rattle.change_apply.proofs.intents.put_intent.Goals as goal

pub put_file-requires-clause-ready : goal.put_file-requires-clause-ready
put_file-requires-clause-ready g c =
    clean_at (change_in c.args.work.now) c.requires.stage.0 (g.H.Host.told c.args.host.now) c.requires.stage.1

pub returns-in-Ok-clause-ok : goal.returns-in-Ok-clause-ok
returns-in-Ok-clause-ok g c =
    λ began at.
    intended (change_in c.args.work.now) c.deref.result.now (c.deref.ensures.value ∙ c.requires.ready.goal_text)
    began (g.H.Host.told c.args.host.now) (g.H.Host.told c.put_file.new.host) at c.in-Ok.ensures.ok

pub returns-in-Ok-clause-any_moment : goal.returns-in-Ok-clause-any_moment
returns-in-Ok-clause-any_moment g c =
    λ began at.
    intending (change_in c.args.work.now) c.deref.result.now (c.deref.ensures.value ∙ c.requires.ready.goal_text)
    g.H.Host.moment g.H.Host.left_since began (g.H.Host.told c.args.host.now) c.args.host.now c.put_file.new.host at c.put_file.ensures.any_moment

pub returns-in-Err-clause-err : goal.returns-in-Err-clause-err
returns-in-Err-clause-err g c =
    λ began at.
    intent_stops (change_in c.args.work.now) c.deref.result.now (c.deref.ensures.value ∙ c.requires.ready.goal_text)
    began (g.H.Host.told c.args.host.now) (g.H.Host.told c.put_file.new.host) at c.in-Err.ensures.err

pub returns-in-Err-clause-any_moment : goal.returns-in-Err-clause-any_moment
returns-in-Err-clause-any_moment g c =
    λ began at.
    intending (change_in c.args.work.now) c.deref.result.now (c.deref.ensures.value ∙ c.requires.ready.goal_text)
    g.H.Host.moment g.H.Host.left_since began (g.H.Host.told c.args.host.now) c.args.host.now c.put_file.new.host at c.put_file.ensures.any_moment
