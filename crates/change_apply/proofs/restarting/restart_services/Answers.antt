use Rattle.std.proofs.Common.{◌≡◌, List, suc, ◌+◌, length, arith, subst, sym, ◌∙◌, ap}
use Rattle.change_apply.specs.Change.{restarts_at}
use Rattle.change_apply.specs.Stages.{AtPut, Leads}
use Rattle.change_apply.specs.Work.{change_in}
use Rattle.change_apply.specs.declared.ready.Restart.{Restart}
use Rattle.change_apply.proofs.Counting.{rises_on, service_rises, stays}
use Rattle.change_apply.proofs.DueSteps.{due_here, err_holds, is_requested, isnt_requested, ok_holds, restarts_here, while_requested}
use Rattle.change_apply.proofs.Moments.{begins}
use Rattle.change_apply.proofs.StepStages.{left_at_put}
use Rattle.change_apply.proofs.restarting.restart_services.Goals as goal

pub loop-restart-init : goal.loop-restart-init
loop-restart-init g c =
    let s = c.at.result.now in
    let due = due_here c.args.work.now c.args.k s c.at.ensures c.requires.ready c.requires.within in
    record {
      told = λ began at. at;
      left = λ began at. begins g.H.Host.moment g.H.Host.left_since (change_in c.args.work.now) began c.args.host.now
          (λ left since. left_at_put (change_in c.args.work.now) c.args.k s.mv due 0 began (g.H.Host.told c.args.host.now) at left (g.met.H.Host.only_now c.args.host.now left since));
      later = omega arith;
      counts = stays (g.H.Host.counts c.args.host.now);
      goes = g.met.H.Host.begins c.args.host.now;
    }

pub returns-then-is_err-clause-err : goal.returns-then-is_err-clause-err
returns-then-is_err-clause-err g c =
    let s = c.at.result.now in
    let due = due_here c.args.work.now c.args.k s c.at.ensures c.requires.ready c.requires.within in
    let are : restarts_at (change_in c.args.work.now) c.args.k ≡ c.items-restarts.result.now = restarts_here c.args.work.now c.args.k s c.at.ensures ∙ sym c.items-restarts.ensures in
    λ began at.
    isnt_requested (change_in c.args.work.now) c.args.k s.mv due c.items-restarts.result.now are c.loop-restart.restart-index c.restart-item.result c.loop-restart-test.true c.restart-item.is
    began (g.H.Host.told c.loop-restart.host) (g.H.Host.told c.restart.new.self) (c.loop-restart.invariant.told began at) (err_holds c.restart.result c.if-is_err.ensures.value c.restart.ensures.err)

pub returns-then-is_err-clause-any_moment : goal.returns-then-is_err-clause-any_moment
returns-then-is_err-clause-any_moment g c =
    let s = c.at.result.now in
    let due = due_here c.args.work.now c.args.k s c.at.ensures c.requires.ready c.requires.within in
    let are : restarts_at (change_in c.args.work.now) c.args.k ≡ c.items-restarts.result.now = restarts_here c.args.work.now c.args.k s c.at.ensures ∙ sym c.items-restarts.ensures in
    let same : g.H.Host.told c.restart.new.self ≡ g.H.Host.told c.loop-restart.host = err_holds c.restart.result c.if-is_err.ensures.value c.restart.ensures.err in
    λ began at.
    while_requested (change_in c.args.work.now) c.args.k s.mv due c.items-restarts.result.now are c.loop-restart.restart-index c.restart-item.result c.loop-restart-test.true c.restart-item.is
    g.H.Host.moment g.H.Host.left_since g.H.Host.told began c.args.host.now c.loop-restart.host c.restart.new.self c.loop-restart.restart-index
    (subst (AtPut (change_in c.args.work.now) c.args.k c.loop-restart.restart-index began) (sym same) (c.loop-restart.invariant.told began at)) (c.loop-restart.invariant.left began at) c.restart.ensures.time

pub loop-restart-preserved : goal.loop-restart-preserved
loop-restart-preserved g c =
    let s = c.at.result.now in
    let due = due_here c.args.work.now c.args.k s c.at.ensures c.requires.ready c.requires.within in
    let are : restarts_at (change_in c.args.work.now) c.args.k ≡ c.items-restarts.result.now = restarts_here c.args.work.now c.args.k s c.at.ensures ∙ sym c.items-restarts.ensures in
    let one_up : suc c.loop-restart.restart-index ≡ c.loop-restart.restart-index + 1 = omega arith in
    let told : Leads (AtPut (change_in c.args.work.now) c.args.k 0) (AtPut (change_in c.args.work.now) c.args.k (c.loop-restart.restart-index + 1)) (g.H.Host.told c.args.host.now) (g.H.Host.told c.restart.new.self) = λ began at.
    subst (λ j. AtPut (change_in c.args.work.now) c.args.k j began (g.H.Host.told c.restart.new.self)) one_up
    (is_requested (change_in c.args.work.now) c.args.k s.mv due c.items-restarts.result.now are c.loop-restart.restart-index c.restart-item.result c.loop-restart-test.true c.restart-item.is
    c.as_str.result.now c.as_str.ensures.text
    began (g.H.Host.told c.loop-restart.host) (g.H.Host.told c.restart.new.self) (c.loop-restart.invariant.told began at) (ok_holds c.restart.result c.if-is_err.ensures.value c.restart.ensures.ok)) in
    record {
      told = told;
      left = λ began at.
          while_requested (change_in c.args.work.now) c.args.k s.mv due c.items-restarts.result.now are c.loop-restart.restart-index c.restart-item.result c.loop-restart-test.true c.restart-item.is
          g.H.Host.moment g.H.Host.left_since g.H.Host.told began c.args.host.now c.loop-restart.host c.restart.new.self (c.loop-restart.restart-index + 1)
          (told began at) (c.loop-restart.invariant.left began at) c.restart.ensures.time;
      later = omega (arith, c.loop-restart.invariant.later, c.restart.ensures.time.later);
      counts = rises_on (g.H.Host.counts c.args.host.now) (g.H.Host.counts c.loop-restart.host) (g.H.Host.counts c.restart.new.self) c.loop-restart.invariant.counts (service_rises (g.H.Host.counts c.loop-restart.host) (g.H.Host.counts c.restart.new.self) c.restart.ensures.counts);
      goes = g.met.H.Host.continues c.args.host.now c.loop-restart.host c.restart.new.self c.loop-restart.invariant.goes c.restart.ensures.goes;
    }

pub returns-clause-ok : goal.returns-clause-ok
returns-clause-ok g c =
    let are : restarts_at (change_in c.args.work.now) c.args.k ≡ c.items-restarts.result.now = restarts_here c.args.work.now c.args.k c.at.result.now c.at.ensures ∙ sym c.items-restarts.ensures in
    let same : length c.items-restarts.result.now ≡ length (restarts_at (change_in c.args.work.now) c.args.k) = ap (λ (l : List Restart). length l) (sym are) in
    let all : c.loop-restart.restart-index ≡ length (restarts_at (change_in c.args.work.now) c.args.k) = omega (arith, same, c.loop-restart-test.false, c.loop-restart.auto.restart-index-end) in
    λ began at.
    subst (λ j. AtPut (change_in c.args.work.now) c.args.k j began (g.H.Host.told c.loop-restart.host)) all (c.loop-restart.invariant.told began at)
