use Rattle.std.proofs.Common.{◌∷◌, ◌+◌, arith, drop, None, subst}
use Rattle.host_core.specs.State.{with_file}
use Rattle.conf_store.specs.Changes.{Settles}
use Rattle.conf_store.specs.Clearing.{IsClearing, IsDone, IsDoneOrNot, KeepsRest}
use Rattle.conf_store.proofs.Counting.{on_err, rises_on, stays}
use Rattle.conf_store.proofs.Moments.{begins, changes_behind, joins, settles_behind}
use Rattle.conf_store.proofs.StepRemovals.{at_first, may_remove, next_first, one_less, rest_itself, rest_meanwhile}
use Rattle.conf_store.proofs.clearing.remove_steps.Goals as goal

pub loop-name-init : goal.loop-name-init
loop-name-init g c = record {
  told = at_first c.args.steps.now (g.H.Host.told c.args.host.now) c.requires.ready c.requires.steps;
  left = begins g.H.Host.moment g.H.Host.left_since KeepsRest rest_itself (g.H.Host.told c.args.host.now) c.requires.ready c.args.host.now (λ left since. g.met.H.Host.only_now c.args.host.now left since);
  later = omega arith;
  counts = stays (g.H.Host.counts c.args.host.now);
  goes = g.met.H.Host.begins c.args.host.now;
}

pub remove_file-requires-clause-ready : goal.remove_file-requires-clause-ready
remove_file-requires-clause-ready g c =
    let rest = drop (c.loop-name.name-index + 1) c.args.steps.now in
    let more = next_first c.args.steps.now c.loop-name.name-index c.name-item.result c.as_str.result.now c.loop-name-test.true c.name-item.is c.as_str.ensures.text in
    let ends : Settles (IsClearing (c.as_str.result.now ∷ rest)) (g.H.Host.told c.args.host.now) (g.H.Host.told c.loop-name.host) = subst (λ l. Settles (IsClearing l) (g.H.Host.told c.args.host.now) (g.H.Host.told c.loop-name.host)) more c.loop-name.invariant.told in
    may_remove c.as_str.result.now rest (g.H.Host.told c.args.host.now) (g.H.Host.told c.loop-name.host) ends

pub returns-in_err-remove_file-clause-err : goal.returns-in_err-remove_file-clause-err
returns-in_err-remove_file-clause-err g c =
    let rest = drop (c.loop-name.name-index + 1) c.args.steps.now in
    let more = next_first c.args.steps.now c.loop-name.name-index c.name-item.result c.as_str.result.now c.loop-name-test.true c.name-item.is c.as_str.ensures.text in
    let ends : Settles (IsClearing (c.as_str.result.now ∷ rest)) (g.H.Host.told c.args.host.now) (g.H.Host.told c.loop-name.host) = subst (λ l. Settles (IsClearing l) (g.H.Host.told c.args.host.now) (g.H.Host.told c.loop-name.host)) more c.loop-name.invariant.told in
    on_err c.from_residual.result (changes_behind (IsClearing (c.as_str.result.now ∷ rest)) (IsDoneOrNot (with_file c.as_str.result.now None)) KeepsRest (g.H.Host.told c.args.host.now) (g.H.Host.told c.loop-name.host) (g.H.Host.told c.remove_file.new.host) (rest_meanwhile c.as_str.result.now rest (g.H.Host.told c.args.host.now)) ends c.in_err-remove_file.ensures.err)

pub returns-in_err-remove_file-clause-any_moment : goal.returns-in_err-remove_file-clause-any_moment
returns-in_err-remove_file-clause-any_moment g c =
    let rest = drop (c.loop-name.name-index + 1) c.args.steps.now in
    let more = next_first c.args.steps.now c.loop-name.name-index c.name-item.result c.as_str.result.now c.loop-name-test.true c.name-item.is c.as_str.ensures.text in
    let ends : Settles (IsClearing (c.as_str.result.now ∷ rest)) (g.H.Host.told c.args.host.now) (g.H.Host.told c.loop-name.host) = subst (λ l. Settles (IsClearing l) (g.H.Host.told c.args.host.now) (g.H.Host.told c.loop-name.host)) more c.loop-name.invariant.told in
    joins g.H.Host.moment g.H.Host.left_since (IsClearing (c.as_str.result.now ∷ rest)) (IsDoneOrNot (with_file c.as_str.result.now None)) KeepsRest (g.H.Host.told c.args.host.now) (g.H.Host.told c.loop-name.host) (rest_meanwhile c.as_str.result.now rest (g.H.Host.told c.args.host.now)) ends c.args.host.now c.loop-name.host c.remove_file.new.host c.loop-name.invariant.left c.remove_file.ensures.any_moment

pub loop-name-preserved : goal.loop-name-preserved
loop-name-preserved g c =
    let rest = drop (c.loop-name.name-index + 1) c.args.steps.now in
    let more = next_first c.args.steps.now c.loop-name.name-index c.name-item.result c.as_str.result.now c.loop-name-test.true c.name-item.is c.as_str.ensures.text in
    let ends : Settles (IsClearing (c.as_str.result.now ∷ rest)) (g.H.Host.told c.args.host.now) (g.H.Host.told c.loop-name.host) = subst (λ l. Settles (IsClearing l) (g.H.Host.told c.args.host.now) (g.H.Host.told c.loop-name.host)) more c.loop-name.invariant.told in
    record {
      told = settles_behind (IsClearing (c.as_str.result.now ∷ rest)) (IsDone (with_file c.as_str.result.now None)) (IsClearing rest) (g.H.Host.told c.args.host.now) (g.H.Host.told c.loop-name.host) (g.H.Host.told c.remove_file.new.host) (one_less c.as_str.result.now rest (g.H.Host.told c.args.host.now)) ends c.in_ok-remove_file.ensures.ok;
      left = joins g.H.Host.moment g.H.Host.left_since (IsClearing (c.as_str.result.now ∷ rest)) (IsDoneOrNot (with_file c.as_str.result.now None)) KeepsRest (g.H.Host.told c.args.host.now) (g.H.Host.told c.loop-name.host) (rest_meanwhile c.as_str.result.now rest (g.H.Host.told c.args.host.now)) ends c.args.host.now c.loop-name.host c.remove_file.new.host c.loop-name.invariant.left c.remove_file.ensures.any_moment;
      later = omega (arith, c.loop-name.invariant.later, c.remove_file.ensures.later);
      counts = rises_on (g.H.Host.counts c.args.host.now) (g.H.Host.counts c.loop-name.host) (g.H.Host.counts c.remove_file.new.host) c.loop-name.invariant.counts c.remove_file.ensures.counts;
      goes = g.met.H.Host.continues c.args.host.now c.loop-name.host c.remove_file.new.host c.loop-name.invariant.goes c.remove_file.ensures.goes;
    }
