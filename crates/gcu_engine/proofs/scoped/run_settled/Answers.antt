use Rattle.std.proofs.Common.{sym, ◌∙◌}
use Rattle.host_core.specs.Counts.{NoneFell}
use Rattle.command_answers.specs.Answers.{HasCause}
use Rattle.gcu_engine.proofs.Scoping.{at_ends, runs_viewed}
use Rattle.gcu_engine.proofs.scoped.run_settled.Goals as goal

pub returns-clause-runs : goal.returns-clause-runs
returns-clause-runs g c words is =
    let crash = c.run_form.ensures.crash words is in
    runs_viewed g.H.Host.told g.H.Host.counts g.H.Host.moment g.H.Host.left_since words c.run_form.result
    c.args.scope c.new-view.result.scope c.run_form.new.host.scope c.args.host.now c.new-view.result.host.now _ c.run_form.new.host.host.now
    c.new-view.ensures.scope c.run_form.ensures.goes.1 c.new-view.ensures.host
    (c.host-1.given.1 (sym (c.run_form.ensures.goes.0 ∙ c.new-view.ensures.same_reference)))
    c.requires.ready (λ left since. g.met.H.Host.only_now c.args.host.now left since)
    (record {
      answers = c.run_form.ensures.answers words is;
      later = crash.later;
      each = crash.each;
      before = crash.before;
      early = λ any. (c.run_form.ensures.early words is any).before;
      complete = c.run_form.ensures.complete words is;
      resumes = c.run_form.ensures.resumes words is;
      keeps = c.run_form.ensures.goes.3;
      none_fell = c.run_form.ensures.counts;
    })

pub returns-clause-cause : goal.returns-clause-cause
returns-clause-cause g c =
    at_ends (λ old new. HasCause (g.H.Host.counts old) (g.H.Host.counts new) c.run_form.result) c.args.host.now c.new-view.result.host.now _ c.run_form.new.host.host.now
    c.new-view.ensures.host (c.host-1.given.1 (sym (c.run_form.ensures.goes.0 ∙ c.new-view.ensures.same_reference))) c.run_form.ensures.cause

pub returns-clause-counts : goal.returns-clause-counts
returns-clause-counts g c =
    at_ends (λ old new. NoneFell (g.H.Host.counts old) (g.H.Host.counts new)) c.args.host.now c.new-view.result.host.now _ c.run_form.new.host.host.now
    c.new-view.ensures.host (c.host-1.given.1 (sym (c.run_form.ensures.goes.0 ∙ c.new-view.ensures.same_reference))) c.run_form.ensures.counts

pub returns-clause-goes : goal.returns-clause-goes
returns-clause-goes g c =
    at_ends g.H.Host.goes_on c.args.host.now c.new-view.result.host.now _ c.run_form.new.host.host.now
    c.new-view.ensures.host (c.host-1.given.1 (sym (c.run_form.ensures.goes.0 ∙ c.new-view.ensures.same_reference))) c.run_form.ensures.goes.2
