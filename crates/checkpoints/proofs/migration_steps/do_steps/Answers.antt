use Rattle.std.proofs.Common.{◌≡◌, suc, ◌+◌, arith, subst}
use Rattle.checkpoints.specs.MigrationStages.{AtStep}
use Rattle.checkpoints.proofs.MigrationCounting.{rises_on, stays}
use Rattle.checkpoints.proofs.MigrationMoments.{begins, joins}
use Rattle.checkpoints.proofs.MigrationSteps.{left_at_step}
use Rattle.checkpoints.proofs.migration_steps.do_steps.Goals as goal

pub loop-k-init : goal.loop-k-init
loop-k-init g c = record {
  told = λ began at. at;
  left = λ began at.
      begins g.H.Host.moment g.H.Host.left_since c.args.migration.now began c.args.host.now
      (λ left since. left_at_step g.H.Host.moment g.H.Host.left_since c.args.migration.now 0 (omega arith) began (g.H.Host.told c.args.host.now) at left (g.met.H.Host.only_now c.args.host.now left since));
  later = omega arith;
  counts = stays (g.H.Host.counts c.args.host.now);
  goes = g.met.H.Host.begins c.args.host.now;
}

pub returns-in_err-do_step-clause-any_moment : goal.returns-in_err-do_step-clause-any_moment
returns-in_err-do_step-clause-any_moment g c =
    λ began at.
    joins g.H.Host.moment g.H.Host.left_since c.args.migration.now began c.args.host.now c.loop-k.host c.do_step.new.host
    (c.loop-k.invariant.left began at) (c.do_step.ensures.any_moment began (c.loop-k.invariant.told began at))

pub loop-k-preserved : goal.loop-k-preserved
loop-k-preserved g c =
    let one_up : suc c.loop-k.k ≡ c.loop-k.k + 1 = omega arith in
    record {
      told = λ began at.
          subst (λ j. AtStep c.args.migration.now j began (g.H.Host.told c.do_step.new.host)) one_up (c.in_ok-do_step.ensures.ok began (c.loop-k.invariant.told began at));
      left = λ began at.
          joins g.H.Host.moment g.H.Host.left_since c.args.migration.now began c.args.host.now c.loop-k.host c.do_step.new.host
          (c.loop-k.invariant.left began at) (c.do_step.ensures.any_moment began (c.loop-k.invariant.told began at));
      later = omega (arith, c.loop-k.invariant.later, c.do_step.ensures.later);
      counts = rises_on (g.H.Host.counts c.args.host.now) (g.H.Host.counts c.loop-k.host) (g.H.Host.counts c.do_step.new.host) c.loop-k.invariant.counts c.do_step.ensures.counts;
      goes = g.met.H.Host.continues c.args.host.now c.loop-k.host c.do_step.new.host c.loop-k.invariant.goes c.do_step.ensures.goes;
    }
