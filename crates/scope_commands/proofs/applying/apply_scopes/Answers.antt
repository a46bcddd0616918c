use Rattle.std.proofs.Common.{inl, inr, ℕ, refl, sym, ap, subst, arith}
use Rattle.host_core.specs.Counts.{Counts, Rose}
use Rattle.host_core.specs.Crashes.{Elapses, MayLeaveNow}
use Rattle.gcu_output.specs.Lines.{last_line}
use Rattle.gcu_output.specs.declared.outcomes.Outcome.TheVariants.{DiskFault}
use Rattle.gcu_words.specs.ScopesForm.{scopes_view}
use Rattle.scope_commands.specs.SeveralScopes.{settling}
use Rattle.command_answers.proofs.Answering.{said_to}
use Rattle.command_answers.proofs.Causes.{disk_fell, said_cause}
use Rattle.writing_commands.proofs.Changes.{cause_from}
use Rattle.command_answers.proofs.Elapsing.{asking_leaves_behind}
use Rattle.scope_commands.proofs.ScopesIdle.{files_kept}
use Rattle.scope_commands.proofs.ScopesPoints.{points_kept, points_left}
use Rattle.scope_commands.proofs.Settling.{settled_now, settling_says, still_before}
use Rattle.scope_commands.proofs.applying.apply_scopes.Goals as goal

-- ---- nothing is pending

pub apply_settled-requires-clause-clean : goal.apply_settled-requires-clause-clean
apply_settled-requires-clause-clean g c =
    settled_now (g.H.Host.told c.args.host.now) (g.H.Host.told c.settle.new.self) c.in-Ok.ensures.ok

pub returns-in-Ok-clause-applies : goal.returns-in-Ok-clause-applies
returns-in-Ok-clause-applies g c =
    inr (record {
      between = c.settle.new.self;
      settles = c.in-Ok.ensures.ok;
      time = c.settle.ensures.time;
      counted = c.settle.ensures.counts;
      starts = (omega arith, λ left since. g.met.H.Host.only_now c.settle.new.self left since);
      begins = still_before g.H.Host.told g.H.Host.moment g.H.Host.left_since c.args.host.now c.settle.new.self
          (λ left since. g.met.H.Host.only_now c.args.host.now left since) c.in-Ok.ensures.ok c.settle.ensures.time;
      does = c.apply_settled.ensures.does;
      points = points_kept g.H.Host.told g.H.Host.counts g.H.Host.moment g.H.Host.left_since
          c.scopes_keep_points.ensures (scopes_view c.args.change)
          c.args.host.now c.settle.new.self c.apply_settled.new.host c.apply_settled.result c.in-Ok.ensures.ok
          c.apply_settled.ensures.does;
      points_left = points_left g.H.Host.told g.H.Host.counts g.H.Host.moment g.H.Host.left_since
          c.scopes_keep_points.ensures (scopes_view c.args.change)
          c.args.host.now c.settle.new.self c.apply_settled.new.host c.apply_settled.result c.in-Ok.ensures.ok
          c.apply_settled.ensures.does;
      kept =
          files_kept g.H.Host.told g.H.Host.counts g.H.Host.moment g.H.Host.left_since c.plans_of_scopes_are_one.ensures
          (scopes_view c.args.change)
          c.args.host.now c.settle.new.self c.apply_settled.new.host c.apply_settled.result c.in-Ok.ensures.ok
          c.apply_settled.ensures.does;
    })

pub returns-in-Ok-clause-cause : goal.returns-in-Ok-clause-cause
returns-in-Ok-clause-cause g c =
    cause_from (g.H.Host.counts c.args.host.now) (g.H.Host.counts c.settle.new.self)
    (g.H.Host.counts c.apply_settled.new.host) c.apply_settled.result
    (disk_fell (g.H.Host.counts c.args.host.now) (g.H.Host.counts c.settle.new.self) c.settle.ensures.counts)
    c.apply_settled.ensures.cause

pub returns-in-Ok-clause-goes : goal.returns-in-Ok-clause-goes
returns-in-Ok-clause-goes g c =
    g.met.H.Host.continues c.args.host.now c.settle.new.self c.apply_settled.new.host c.settle.ensures.goes
    c.apply_settled.ensures.goes

-- ---- what is pending can't be settled

pub returns-in-Err-clause-cause : goal.returns-in-Err-clause-cause
returns-in-Err-clause-cause g c =
    said_cause (g.H.Host.counts c.args.host.now) (g.H.Host.counts c.settle.new.self) (g.H.Host.counts c.say.new.host)
    (disk_fell (g.H.Host.counts c.args.host.now) (g.H.Host.counts c.settle.new.self) c.settle.ensures.counts)
    c.say.ensures.counts
    (DiskFault 0) (g.H.Host.told c.settle.new.self) (g.H.Host.told c.say.new.host)
    c.say.result (refl, c.in-Err.ensures.cause) c.say.ensures.said

pub returns-in-Err-clause-goes : goal.returns-in-Err-clause-goes
returns-in-Err-clause-goes g c =
    g.met.H.Host.continues c.args.host.now c.settle.new.self c.say.new.host c.settle.ensures.goes c.say.ensures.goes

pub returns-in-Err-clause-applies : goal.returns-in-Err-clause-applies
returns-in-Err-clause-applies g c =
    let says = settling_says (g.H.Host.told c.args.host.now) in
    inl (record {
      rose = subst (λ (n : ℕ). Rose (g.H.Host.counts c.args.host.now).disk n)
          (sym (ap (λ (n : Counts). n.disk) c.say.ensures.counts.2)) c.in-Err.ensures.cause;
      answers = said_to settling (g.H.Host.told c.args.host.now) (g.H.Host.told c.say.new.host)
          (g.H.Host.counts c.args.host.now) (g.H.Host.counts c.settle.new.self) (g.H.Host.counts c.say.new.host)
          (DiskFault 0) (last_line (DiskFault 0)) c.say.result (rw c.in-Err.ensures.err at c.say.ensures.said)
          c.say.ensures.counts c.in-Err.ensures.cause says;
      crash = asking_leaves_behind g.H.Host.moment g.H.Host.left_since settling
          c.args.host.now c.settle.new.self c.say.new.host
          (g.H.Host.told c.args.host.now) (g.H.Host.told c.settle.new.self) (DiskFault 0) (last_line (DiskFault 0))
          c.in-Err.ensures.err says
          (λ left since. g.met.H.Host.only_now c.args.host.now left since)
          (subst (λ o. Elapses g.H.Host.moment g.H.Host.left_since c.args.host.now c.settle.new.self (MayLeaveNow o))
          c.in-Err.ensures.err c.settle.ensures.time) c.say.ensures.time;
    })
