use Rattle.std.proofs.Common.{◌≤◌, option_map, sym, ◌∙◌}
use Rattle.std.specs.Prelude.{IfErr}
use Rattle.change_apply.specs.Ends.{HasCause, MayRise}
use Rattle.scopes.specs.Views.{seen}
use Rattle.scope_changes.proofs.Viewing.{at_ends, runs_viewed, some_gives}
use Rattle.scope_changes.proofs.one.run_in_scope.Goals as goal

pub returns : goal.returns
returns g c =
    let host = g.H.Host in
    let old = c.args.host.now in
    let behind = c.new-view.result.host.now in
    let ended = c.run.new.host.host.now in
    let ends = c.host-1.given.1 (sym (c.run.ensures.goes.0 ∙ c.new-view.ensures.same_reference)) in
    let run =
    runs_viewed host.told host.moment host.left_since c.args.ready.now c.run.result c.args.scope c.new-view.result.scope c.run.new.host.scope old behind _ ended
    c.new-view.ensures.scope c.run.ensures.goes.1 c.new-view.ensures.host ends c.requires.clean
    (record {
      ok = c.run.ensures.ok;
      err = c.run.ensures.err;
      leaves = some_gives (option_map (seen c.new-view.result.scope) (host.told behind)) c.run.ensures.any_moment (λ s left. record { before = left.before });
      keeps = c.run.ensures.goes.3;
    }) in
    record {
      ok = run.ok;
      err = run.err;
      leaves = run.leaves;
      later = at_ends (λ a b. host.moment a ≤ host.moment b) old behind _ ended c.new-view.ensures.host ends c.run.ensures.later;
      counts = at_ends (λ a b. MayRise (host.counts a) (host.counts b)) old behind _ ended c.new-view.ensures.host ends c.run.ensures.counts;
      cause = at_ends (λ a b. IfErr c.run.result (HasCause (host.counts a) (host.counts b))) old behind _ ended c.new-view.ensures.host ends c.run.ensures.cause;
      goes = at_ends host.goes_on old behind _ ended c.new-view.ensures.host ends c.run.ensures.goes.2;
    }
