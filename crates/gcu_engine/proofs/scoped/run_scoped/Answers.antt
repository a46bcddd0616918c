use Rattle.std.proofs.Common.{inl, inr, ℕ, refl, sym, ap, subst, arith}
use Rattle.host_core.specs.Counts.{Counts, Rose}
use Rattle.host_core.specs.Crashes.{Elapses, MayLeaveNow}
use Rattle.gcu_output.specs.Lines.{last_line}
use Rattle.gcu_output.specs.declared.outcomes.Outcome.TheVariants.{DiskFault}
use Rattle.scope_commands.specs.SeveralScopes.{settling}
use Rattle.command_answers.proofs.Answering.{said_to}
use Rattle.command_answers.proofs.Causes.{disk_fell, said_cause}
use Rattle.writing_commands.proofs.Changes.{cause_from}
use Rattle.command_answers.proofs.Elapsing.{asking_leaves_behind}
use Rattle.scope_commands.proofs.Settling.{settled_now, settling_says, still_before}
use Rattle.gcu_engine.proofs.scoped.run_scoped.Goals as goal

-- ---- nothing is pending

pub run_settled-requires-clause-ready : goal.run_settled-requires-clause-ready
run_settled-requires-clause-ready g c = settled_now (g.H.Host.told c.args.host.now) (g.H.Host.told c.settle.new.self) c.in-Ok.ensures.ok

pub returns-in-Ok-clause-runs : goal.returns-in-Ok-clause-runs
returns-in-Ok-clause-runs g c words is =
    inr (record {
      between = c.settle.new.self;
      settles = c.in-Ok.ensures.ok;
      time = c.settle.ensures.time;
      counted = c.settle.ensures.counts;
      starts = (omega arith, λ left since. g.met.H.Host.only_now c.settle.new.self left since);
      begins = still_before g.H.Host.told g.H.Host.moment g.H.Host.left_since c.args.host.now c.settle.new.self
          (λ left since. g.met.H.Host.only_now c.args.host.now left since) c.in-Ok.ensures.ok c.settle.ensures.time;
      runs = c.run_settled.ensures.runs words is;
    })

pub returns-in-Ok-clause-cause : goal.returns-in-Ok-clause-cause
returns-in-Ok-clause-cause g c =
    cause_from (g.H.Host.counts c.args.host.now) (g.H.Host.counts c.settle.new.self) (g.H.Host.counts c.run_settled.new.host) c.run_settled.result
    (disk_fell (g.H.Host.counts c.args.host.now) (g.H.Host.counts c.settle.new.self) c.settle.ensures.counts) c.run_settled.ensures.cause

pub returns-in-Ok-clause-goes : goal.returns-in-Ok-clause-goes
returns-in-Ok-clause-goes g c =
    g.met.H.Host.continues c.args.host.now c.settle.new.self c.run_settled.new.host c.settle.ensures.goes c.run_settled.ensures.goes

-- ---- what is pending can't be settled

pub returns-in-Err-clause-cause : goal.returns-in-Err-clause-cause
returns-in-Err-clause-cause g c =
    said_cause (g.H.Host.counts c.args.host.now) (g.H.Host.counts c.settle.new.self) (g.H.Host.counts c.say.new.host)
    (disk_fell (g.H.Host.counts c.args.host.now) (g.H.Host.counts c.settle.new.self) c.settle.ensures.counts) c.say.ensures.counts
    (DiskFault 0) (g.H.Host.told c.settle.new.self) (g.H.Host.told c.say.new.host) c.say.result (refl, c.in-Err.ensures.cause) c.say.ensures.said

pub returns-in-Err-clause-goes : goal.returns-in-Err-clause-goes
returns-in-Err-clause-goes g c =
    g.met.H.Host.continues c.args.host.now c.settle.new.self c.say.new.host c.settle.ensures.goes c.say.ensures.goes

pub returns-in-Err-clause-runs : goal.returns-in-Err-clause-runs
returns-in-Err-clause-runs g c words is =
    let says = settling_says (g.H.Host.told c.args.host.now) in
    inl (record {
      rose = subst (λ (n : ℕ). Rose (g.H.Host.counts c.args.host.now).disk n) (sym (ap (λ (n : Counts). n.disk) c.say.ensures.counts.2)) c.in-Err.ensures.cause;
      answers = said_to settling (g.H.Host.told c.args.host.now) (g.H.Host.told c.say.new.host) (g.H.Host.counts c.args.host.now) (g.H.Host.counts c.settle.new.self) (g.H.Host.counts c.say.new.host)
          (DiskFault 0) (last_line (DiskFault 0)) c.say.result (rw c.in-Err.ensures.err at c.say.ensures.said) c.say.ensures.counts c.in-Err.ensures.cause says;
      crash = asking_leaves_behind g.H.Host.moment g.H.Host.left_since settling c.args.host.now c.settle.new.self c.say.new.host
          (g.H.Host.told c.args.host.now) (g.H.Host.told c.settle.new.self) (DiskFault 0) (last_line (DiskFault 0)) c.in-Err.ensures.err says
          (λ left since. g.met.H.Host.only_now c.args.host.now left since)
          (subst (λ o. Elapses g.H.Host.moment g.H.Host.left_since c.args.host.now c.settle.new.self (MayLeaveNow o)) c.in-Err.ensures.err c.settle.ensures.time) c.say.ensures.time;
    })
