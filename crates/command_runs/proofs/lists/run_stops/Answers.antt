use Rattle.std.proofs.Common.{List, sym, subst, ◌∙◌}
use Rattle.std.proofs.lemmas.List.{map-id}
use Rattle.std.proofs.lemmas.Iterator.Adapters.{YieldsList-from_vec}
use Rattle.std.proofs.lemmas.Iterator.Consumers.{YieldsList-end}
use Rattle.command_runs.specs.Runs.{AreRun, AreUnscoped}
use Rattle.command_runs.specs.declared.stops.Stop.{Stop}
use Rattle.command_runs.proofs.CommandLists.{added_leads, added_runs, none_lead, none_run}
use Rattle.command_runs.proofs.lists.run_stops.Goals as goal

pub loop-stop-init : goal.loop-stop-init
loop-stop-init g c = record {
  kinds = c.requires.kinds;
  runs = none_run c.args.host c.new-rans.result.items c.new-rans.ensures.items;
  lead = λ none. none_lead c.args.host.state c.new-rans.result.items c.new-rans.ensures.items;
}

pub loop-stop-preserved : goal.loop-stop-preserved
loop-stop-preserved g c = record {
  kinds = c.in_ok-now.ensures.kinds;
  runs =
      added_runs c.loop-stop.yielded c.in-Some.stop c.args.host c.loop-stop.now c.in_ok-now.now c.loop-stop.rans.items
      c.run_next.new.rans.items
      c.loop-stop.invariant.runs c.in_ok-now.ensures.run;
  lead = λ none before all.
      added_leads c.crash_may_leave_all.ensures.files c.loop-stop.yielded c.in-Some.stop c.loop-stop.now
      c.in_ok-now.now c.loop-stop.rans.items c.run_next.new.rans.items before
      c.in_ok-now.ensures.run (λ front. c.loop-stop.invariant.lead front before all) none;
}

pub returns-clause-runs : goal.returns-clause-runs
returns-clause-runs g c =
    let same = c.into_iter-stop-iterator.ensures.into_iter_gives in
    let all = YieldsList-from_vec c.args.stops.items same.0 (same.1 ∙ c.args.stops.ok.0) in
    let end = YieldsList-end all c.loop-stop.yielded c.loop-stop.stop-iterator c.loop-stop.yielded_by c.next.result
    c.next.new.self c.in-None.is c.next.ensures.steps in
    subst (λ (done : List Stop). AreRun done c.args.host c.loop-stop.now c.loop-stop.rans.items)
    (sym (map-id c.loop-stop.yielded) ∙ end.0)
    c.loop-stop.invariant.runs

pub returns-clause-lead : goal.returns-clause-lead
returns-clause-lead g c none =
    let same = c.into_iter-stop-iterator.ensures.into_iter_gives in
    let all = YieldsList-from_vec c.args.stops.items same.0 (same.1 ∙ c.args.stops.ok.0) in
    let end = YieldsList-end all c.loop-stop.yielded c.loop-stop.stop-iterator c.loop-stop.yielded_by c.next.result
    c.next.new.self c.in-None.is c.next.ensures.steps in
    c.loop-stop.invariant.lead (subst AreUnscoped (sym (sym (map-id c.loop-stop.yielded) ∙ end.0)) none)
