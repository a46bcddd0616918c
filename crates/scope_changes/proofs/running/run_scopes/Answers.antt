use Rattle.std.proofs.Common.{◌≡◌, ◌<◌, ◌+◌, ◌^◌, suc, List, [], arith, ap, drop, length, refl, subst, take, ◌∙◌}
use Rattle.conf_store.specs.Files.{last_step}
use Rattle.change_apply.specs.Change.{steps}
use Rattle.scope_changes.specs.Ends.{IsBetween, behind_steps}
use Rattle.scope_changes.specs.Stages.{step_of}
use Rattle.scope_changes.specs.Works.{ScopeWork, all_steps}
use Rattle.scope_changes.proofs.Counting.{cause_later, few_scopes, none_rose, rises_on}
use Rattle.scope_changes.proofs.Lists.{all_taken, none_left}
use Rattle.scope_changes.proofs.Passing.{between_first, clean_between, leaves_all, so_far_first, so_far_last}
use Rattle.scope_changes.proofs.Rounds.{between_here, left_here, so_far_here, stands_here, steps_here, stopped_here}
use Rattle.scope_changes.proofs.running.run_scopes.Goals as goal

pub loop-i-init : goal.loop-i-init
loop-i-init g c = record {
  counted = refl;
  few = omega arith;
  told = between_first c.args.changes.now (g.H.Host.told c.args.host.now) c.requires.clean;
  left = λ t le fronts. so_far_first c.args.changes.now (g.H.Host.left_since c.args.host.now t) (g.H.Host.told c.args.host.now) fronts;
  later = omega arith;
  counts = none_rose (g.H.Host.counts c.args.host.now);
  goes = g.met.H.Host.begins c.args.host.now;
}

pub run_one-requires-clause-clean : goal.run_one-requires-clause-clean
run_one-requires-clause-clean g c =
    clean_between (take c.loop-i.i c.args.changes.now) (drop c.loop-i.i c.args.changes.now) (g.H.Host.told c.args.host.now) (g.H.Host.told c.loop-i.host) c.loop-i.invariant.told

pub run_one-requires-clause-stands : goal.run_one-requires-clause-stands
run_one-requires-clause-stands g c =
    stands_here c.args.changes.now c.loop-i.i c.at-change.result.now c.at-change.ensures (g.H.Host.told c.args.host.now) (g.H.Host.told c.loop-i.host) c.requires.ready c.loop-i.invariant.told

-- ---- the steps so far

pub overflow_add-done : goal.overflow_add-done
unfolding last_step
overflow_add-done g c =
    let few = few_scopes c.args.changes.now c.requires.order in
    omega (arith, c.loop-i.invariant.few, few, c.loop-i-test.true, c.len-i-end.ensures, c.steps-count.ensures.few)

-- ---- a fault

pub returns-in-Err-clause-err : goal.returns-in-Err-clause-err
unfolding last_step
returns-in-Err-clause-err g c =
    let works = c.args.changes.now in
    let w : ScopeWork = c.at-change.result.now in
    let few = few_scopes works c.requires.order in
    let steps_are : c.steps-count.result ≡ steps w.change = c.steps-count.ensures.steps ∙ ap (λ (v : ScopeWork). steps v.change) c.change.view_is in
    let small : all_steps (take c.loop-i.i works) + steps w.change < 2 ^ 64 =
    omega (arith, c.loop-i.invariant.few, c.loop-i.invariant.counted, few, c.loop-i-test.true, c.len-i-end.ensures, c.steps-count.ensures.few, steps_are) in
    stopped_here works c.loop-i.i w c.at-change.ensures c.asics_have_files_of_their_own.ensures c.localhost_has_files_of_its_own.ensures c.requires.order
    c.in-Err.fault c.fault_behind.result (g.H.Host.told c.args.host.now) (g.H.Host.told c.loop-i.host) (g.H.Host.told c.run_one.new.host)
    c.requires.clean c.loop-i.invariant.told c.in-Err.ensures.err
    (subst (λ n. n + step_of c.in-Err.fault < 2 ^ 64 → c.fault_behind.result ≡ behind_steps n c.in-Err.fault) c.loop-i.invariant.counted c.fault_behind.ensures.is) small

pub returns-in-Err-clause-any_moment : goal.returns-in-Err-clause-any_moment
returns-in-Err-clause-any_moment g c =
    let works = c.args.changes.now in
    let host = g.H.Host in
    let o = host.told c.args.host.now in
    leaves_all host.moment host.left_since works o c.args.host.now c.run_one.new.host c.requires.clean (omega (arith, c.loop-i.invariant.later, c.run_one.ensures.later))
    (λ left since. g.met.H.Host.only_now c.args.host.now left since)
    (λ t le fronts.
    left_here works c.loop-i.i c.at-change.result.now c.at-change.ensures c.asics_have_files_of_their_own.ensures c.localhost_has_files_of_its_own.ensures c.requires.order
    host.moment host.left_since c.loop-i.host c.run_one.new.host t (omega (arith, le, c.loop-i.invariant.later)) (host.left_since c.args.host.now t)
    o (host.told c.loop-i.host) (host.told c.run_one.new.host)
    c.requires.clean c.loop-i.invariant.told c.run_one.ensures.leaves (c.loop-i.invariant.left t le fronts))

pub returns-in-Err-clause-cause : goal.returns-in-Err-clause-cause
returns-in-Err-clause-cause g c =
    let old = g.H.Host.counts c.args.host.now in
    let new = g.H.Host.counts c.run_one.new.host in
    c.fault_behind.ensures.cause old new
    (cause_later old (g.H.Host.counts c.loop-i.host) new c.in-Err.fault c.loop-i.invariant.counts c.in-Err.ensures.cause)

-- ---- one more scope is done

pub loop-i-preserved : goal.loop-i-preserved
unfolding last_step
loop-i-preserved g c =
    let works = c.args.changes.now in
    let i = c.loop-i.i in
    let w : ScopeWork = c.at-change.result.now in
    let host = g.H.Host in
    let o = host.told c.args.host.now in
    let m = host.told c.loop-i.host in
    let n = host.told c.run_one.new.host in
    let one_up : suc i ≡ i + 1 = omega arith in
    let asics = c.asics_have_files_of_their_own.ensures in
    let apart = c.localhost_has_files_of_its_own.ensures in
    let steps_are : c.steps-count.result ≡ steps w.change = c.steps-count.ensures.steps ∙ ap (λ (v : ScopeWork). steps v.change) c.change.view_is in
    let more : all_steps (take (suc i) works) ≡ all_steps (take i works) + steps w.change = steps_here works i w c.at-change.ensures in
    let counted : c.loop-i.done + c.steps-count.result ≡ all_steps (take (suc i) works) = omega (arith, c.loop-i.invariant.counted, steps_are, more) in
    record {
      counted = subst (λ k. c.loop-i.done + c.steps-count.result ≡ all_steps (take k works)) one_up counted;
      few = omega (arith, c.loop-i.invariant.few, c.steps-count.ensures.few);
      told =
          subst (λ k. IsBetween (take k works) (drop k works) o n) one_up
          (between_here works i w c.at-change.ensures asics apart c.requires.order o m n c.loop-i.invariant.told c.in-Ok.ensures.ok);
      left = λ t le fronts.
          so_far_here works i w c.at-change.ensures asics apart c.requires.order host.moment host.left_since c.loop-i.host c.run_one.new.host
          t (omega (arith, le, c.loop-i.invariant.later)) (host.left_since c.args.host.now t)
          o m n c.requires.clean c.loop-i.invariant.told c.run_one.ensures.leaves (c.loop-i.invariant.left t le fronts) c.in-Ok.ensures.ok;
      later = omega (arith, c.loop-i.invariant.later, c.run_one.ensures.later);
      counts = rises_on (host.counts c.args.host.now) (host.counts c.loop-i.host) (host.counts c.run_one.new.host) c.loop-i.invariant.counts c.run_one.ensures.counts;
      goes = g.met.H.Host.continues c.args.host.now c.loop-i.host c.run_one.new.host c.loop-i.invariant.goes c.run_one.ensures.goes;
    }

-- ---- all are done

pub returns-clause-ok : goal.returns-clause-ok
returns-clause-ok g c =
    let works = c.args.changes.now in
    let i = c.loop-i.i in
    let all : i ≡ length works = omega (arith, c.loop-i-test.false, c.loop-i.auto.i-end, c.len-i-end.ensures) in
    subst (λ (l : List ScopeWork). IsBetween l [] (g.H.Host.told c.args.host.now) (g.H.Host.told c.loop-i.host)) (all_taken works i all)
    (subst (λ (l : List ScopeWork). IsBetween (take i works) l (g.H.Host.told c.args.host.now) (g.H.Host.told c.loop-i.host)) (none_left works i all) c.loop-i.invariant.told)

pub returns-clause-any_moment : goal.returns-clause-any_moment
returns-clause-any_moment g c =
    let works = c.args.changes.now in
    let host = g.H.Host in
    let o = host.told c.args.host.now in
    leaves_all host.moment host.left_since works o c.args.host.now c.loop-i.host c.requires.clean c.loop-i.invariant.later
    (λ left since. g.met.H.Host.only_now c.args.host.now left since)
    (λ t le fronts.
    so_far_last works (take c.loop-i.i works) (drop c.loop-i.i works) (host.left_since c.args.host.now t) (host.left_since c.loop-i.host t) o (host.told c.loop-i.host)
    c.loop-i.invariant.told (c.loop-i.invariant.left t le fronts))
