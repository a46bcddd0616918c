use Rattle.std.proofs.Common.{◌∙◌, arith, subst, sym}
use Rattle.change_apply.specs.Ends.{Stops}
use Rattle.change_apply.specs.Work.{change_in}
use Rattle.change_apply.specs.declared.errors.ApplyFault.TheVariants.{Disk}
use Rattle.change_apply.proofs.DueSteps.{count_is}
use Rattle.change_apply.proofs.IntentStages.{close_stops, closed, closing, may_close}
use Rattle.change_apply.proofs.intents.remove_intent.Goals as goal

pub close-requires-clause-ready : goal.close-requires-clause-ready
close-requires-clause-ready g c =
    may_close (change_in c.args.work.now) c.requires.stage.0 (g.H.Host.told c.args.host.now) c.requires.stage.1

pub returns-in-Ok-clause-ok : goal.returns-in-Ok-clause-ok
returns-in-Ok-clause-ok g c =
    λ began at.
    closed (change_in c.args.work.now) (omega (arith, c.requires.some, count_is c.args.work.now))
    began (g.H.Host.told c.args.host.now) (g.H.Host.told c.close.new.host) at c.in-Ok.ensures.ok

pub returns-in-Ok-clause-any_moment : goal.returns-in-Ok-clause-any_moment
returns-in-Ok-clause-any_moment g c =
    λ began at.
    closing (change_in c.args.work.now) g.H.Host.moment g.H.Host.left_since began (g.H.Host.told c.args.host.now) c.args.host.now c.close.new.host at c.close.ensures.any_moment

pub returns-in-Err-clause-err : goal.returns-in-Err-clause-err
returns-in-Err-clause-err g c =
    λ began at.
    subst (λ j. Stops (change_in c.args.work.now) (Disk j) began (g.H.Host.told c.close.new.host)) (count_is c.args.work.now ∙ sym c.len-step.ensures)
    (close_stops (change_in c.args.work.now) began (g.H.Host.told c.args.host.now) (g.H.Host.told c.close.new.host) at c.in-Err.ensures.err)

pub returns-in-Err-clause-any_moment : goal.returns-in-Err-clause-any_moment
returns-in-Err-clause-any_moment g c =
    λ began at.
    closing (change_in c.args.work.now) g.H.Host.moment g.H.Host.left_since began (g.H.Host.told c.args.host.now) c.args.host.now c.close.new.host at c.close.ensures.any_moment
