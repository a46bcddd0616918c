use Rattle.std.proofs.Common.{ℕ, List, ◌∙◌, ap, drop, length}
use Rattle.command_runs.specs.Noted.{rise}
use Rattle.command_runs.proofs.NextConfigurations.{run_leads}
use Rattle.command_runs.proofs.NotedRuns.{run_is}
use Rattle.command_runs.proofs.running.run_stop.Goals as goal

pub returns-clause-runs : goal.returns-clause-runs
returns-clause-runs g c =
    let ended = c.run_with-host.result.0 in
    let outcome = c.run_with-host.result.1 in
    let noted = c.in_ok-ran.ensures in
    run_is c.args.stop c.args.host ended c.in_ok-hand_on.field-0 c.in_ok-ran.ran outcome c.run_with-host.ensures.goes
    c.run_with-host.ensures.promised c.run_with-host.ensures.scoped
    (noted.before ∙ c.in_ok-before.ensures)
    (noted.output ∙ ap (λ (printed : List ℕ). drop (length printed) ended.state.output) c.output-printed.ensures)
    noted.status noted.calls (noted.starved ∙ ap (λ (n : ℕ). rise n ended.starved) c.starved-starved.ensures)
    noted.fits.0 noted.fits.1 c.in_ok-hand_on.ensures

pub returns-clause-leads : goal.returns-clause-leads
returns-clause-leads g c =
    run_leads c.tokens_of_pointer.ensures.there c.scripts_keep_worlds.ensures.kept c.crash_may_leave_all.ensures.files
    c.args.stop c.args.host c.in_ok-hand_on.field-0 c.in_ok-ran.ran
    (returns-clause-runs g c)
