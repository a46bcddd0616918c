use Rattle.std.proofs.Common.{inl, inr, sym, ◌∙◌}
use Rattle.gcu_words.specs.Form.{form}
use Rattle.gcu_words.specs.ScopesForm.{scopes_view}
use Rattle.gcu_engine.proofs.Headlines.{headline_in}
use Rattle.gcu_engine.proofs.Intending.{keeps_intent}
use Rattle.gcu_engine.proofs.Scoping.{is_there, some_or_none}
use Rattle.gcu_engine.proofs.run_command.run.Goals as goal

-- ---- words that name a scope

pub returns-in-Some-clause-answers : goal.returns-in-Some-clause-answers
returns-in-Some-clause-answers g c none = absurd (none.0 _ c.in-Some.ensures.form.0 c.in-Some.ensures.form.1)

pub returns-in-Some-clause-crash : goal.returns-in-Some-clause-crash
returns-in-Some-clause-crash g c none = absurd (none.0 _ c.in-Some.ensures.form.0 c.in-Some.ensures.form.1)

pub returns-in-Some-clause-headline : goal.returns-in-Some-clause-headline
returns-in-Some-clause-headline g c none = absurd (none.0 _ c.in-Some.ensures.form.0 c.in-Some.ensures.form.1)

pub returns-in-Some-clause-intent : goal.returns-in-Some-clause-intent
returns-in-Some-clause-intent g c none = absurd (none.0 _ c.in-Some.ensures.form.0 c.in-Some.ensures.form.1)

pub returns-in-Some-clause-settles : goal.returns-in-Some-clause-settles
returns-in-Some-clause-settles g c none = absurd (none.0 _ c.in-Some.ensures.form.0 c.in-Some.ensures.form.1)

pub returns-in-Some-clause-settles_writes : goal.returns-in-Some-clause-settles_writes
returns-in-Some-clause-settles_writes g c none = absurd (none.0 _ c.in-Some.ensures.form.0 c.in-Some.ensures.form.1)

pub returns-in-Some-clause-complete : goal.returns-in-Some-clause-complete
returns-in-Some-clause-complete g c none = absurd (none.0 _ c.in-Some.ensures.form.0 c.in-Some.ensures.form.1)

pub returns-in-Some-clause-resumes : goal.returns-in-Some-clause-resumes
returns-in-Some-clause-resumes g c none = absurd (none.0 _ c.in-Some.ensures.form.0 c.in-Some.ensures.form.1)

pub returns-in-Some-clause-usage : goal.returns-in-Some-clause-usage
returns-in-Some-clause-usage g c said =
    absurd (some_or_none (form c.in-Some.ensures.form.0) c.in-Some.ensures.form.1.command (c.in-Some.ensures.form.2 ∙ c.run_scoped.ensures.usage said))

pub returns-in-Some-clause-only_usage : goal.returns-in-Some-clause-only_usage
returns-in-Some-clause-only_usage g c none = absurd (none.0.0 _ c.in-Some.ensures.form.0 c.in-Some.ensures.form.1)

pub returns-in-Some-clause-scoped : goal.returns-in-Some-clause-scoped
returns-in-Some-clause-scoped g c =
    inr (inl (c.in-Some.scoped.scope, c.in-Some.ensures.form.0, c.in-Some.ensures.form.1, c.run_scoped.ensures.runs c.in-Some.ensures.form.0 c.in-Some.ensures.form.2))

-- ---- a change of several scopes

pub returns-in-Some-read_scopes_form-clause-answers : goal.returns-in-Some-read_scopes_form-clause-answers
returns-in-Some-read_scopes_form-clause-answers g c none = absurd (is_there _ _ c.in-Some-read_scopes_form.ensures none.1)

pub returns-in-Some-read_scopes_form-clause-crash : goal.returns-in-Some-read_scopes_form-clause-crash
returns-in-Some-read_scopes_form-clause-crash g c none = absurd (is_there _ _ c.in-Some-read_scopes_form.ensures none.1)

pub returns-in-Some-read_scopes_form-clause-headline : goal.returns-in-Some-read_scopes_form-clause-headline
returns-in-Some-read_scopes_form-clause-headline g c none = absurd (is_there _ _ c.in-Some-read_scopes_form.ensures none.1)

pub returns-in-Some-read_scopes_form-clause-intent : goal.returns-in-Some-read_scopes_form-clause-intent
returns-in-Some-read_scopes_form-clause-intent g c none = absurd (is_there _ _ c.in-Some-read_scopes_form.ensures none.1)

pub returns-in-Some-read_scopes_form-clause-settles : goal.returns-in-Some-read_scopes_form-clause-settles
returns-in-Some-read_scopes_form-clause-settles g c none =
    absurd (is_there _ _ c.in-Some-read_scopes_form.ensures none.1)

pub returns-in-Some-read_scopes_form-clause-settles_writes : goal.returns-in-Some-read_scopes_form-clause-settles_writes
returns-in-Some-read_scopes_form-clause-settles_writes g c none =
    absurd (is_there _ _ c.in-Some-read_scopes_form.ensures none.1)

pub returns-in-Some-read_scopes_form-clause-complete : goal.returns-in-Some-read_scopes_form-clause-complete
returns-in-Some-read_scopes_form-clause-complete g c none = absurd (is_there _ _ c.in-Some-read_scopes_form.ensures none.1)

pub returns-in-Some-read_scopes_form-clause-resumes : goal.returns-in-Some-read_scopes_form-clause-resumes
returns-in-Some-read_scopes_form-clause-resumes g c none = absurd (is_there _ _ c.in-Some-read_scopes_form.ensures none.1)

pub returns-in-Some-read_scopes_form-clause-usage : goal.returns-in-Some-read_scopes_form-clause-usage
returns-in-Some-read_scopes_form-clause-usage g c said = absurd (c.apply_scopes.ensures.form said)

pub returns-in-Some-read_scopes_form-clause-only_usage : goal.returns-in-Some-read_scopes_form-clause-only_usage
returns-in-Some-read_scopes_form-clause-only_usage g c none = absurd (is_there _ _ c.in-Some-read_scopes_form.ensures none.0.1)

pub returns-in-Some-read_scopes_form-clause-scoped : goal.returns-in-Some-read_scopes_form-clause-scoped
returns-in-Some-read_scopes_form-clause-scoped g c = inr (inr (scopes_view c.in-Some-read_scopes_form.change, sym c.in-Some-read_scopes_form.ensures, c.apply_scopes.ensures.applies))

-- ---- all others

pub returns-in-None-read_scopes_form-clause-answers : goal.returns-in-None-read_scopes_form-clause-answers
returns-in-None-read_scopes_form-clause-answers g c none = c.run_form.ensures.answers c.args.words.now (sym c.read_form.ensures.form)

pub returns-in-None-read_scopes_form-clause-crash : goal.returns-in-None-read_scopes_form-clause-crash
returns-in-None-read_scopes_form-clause-crash g c none = c.run_form.ensures.crash c.args.words.now (sym c.read_form.ensures.form)

pub returns-in-None-read_scopes_form-clause-headline : goal.returns-in-None-read_scopes_form-clause-headline
returns-in-None-read_scopes_form-clause-headline g c none =
    let words = c.args.words.now in
    let is = sym c.read_form.ensures.form in
    let host = g.H.Host in
    headline_in words (host.told c.args.host.now) (host.told c.run_form.new.host) (host.counts c.args.host.now)
    (host.counts c.run_form.new.host) c.run_form.result
    (host.left_since c.run_form.new.host (host.moment c.args.host.now)) (c.run_form.ensures.answers words is)
    (c.run_form.ensures.crash words is).each (λ any. (c.run_form.ensures.early words is any).each)

pub returns-in-None-read_scopes_form-clause-intent : goal.returns-in-None-read_scopes_form-clause-intent
returns-in-None-read_scopes_form-clause-intent g c none =
    keeps_intent c.args.words.now (g.H.Host.told c.args.host.now)
    (g.H.Host.left_since c.run_form.new.host (g.H.Host.moment c.args.host.now))
    (c.run_form.ensures.crash c.args.words.now (sym c.read_form.ensures.form)).each

pub returns-in-None-read_scopes_form-clause-settles : goal.returns-in-None-read_scopes_form-clause-settles
returns-in-None-read_scopes_form-clause-settles g c none =
    c.run_form.ensures.settles c.args.words.now (sym c.read_form.ensures.form)

pub returns-in-None-read_scopes_form-clause-settles_writes : goal.returns-in-None-read_scopes_form-clause-settles_writes
returns-in-None-read_scopes_form-clause-settles_writes g c none =
    c.run_form.ensures.settles_writes c.args.words.now (sym c.read_form.ensures.form)

pub returns-in-None-read_scopes_form-clause-complete : goal.returns-in-None-read_scopes_form-clause-complete
returns-in-None-read_scopes_form-clause-complete g c none = c.run_form.ensures.complete c.args.words.now (sym c.read_form.ensures.form)

pub returns-in-None-read_scopes_form-clause-resumes : goal.returns-in-None-read_scopes_form-clause-resumes
returns-in-None-read_scopes_form-clause-resumes g c none = c.run_form.ensures.resumes c.args.words.now (sym c.read_form.ensures.form)

pub returns-in-None-read_scopes_form-clause-usage : goal.returns-in-None-read_scopes_form-clause-usage
returns-in-None-read_scopes_form-clause-usage g c said = ((c.in-None.ensures.form, sym c.in-None-read_scopes_form.ensures), sym c.read_form.ensures.form ∙ c.run_form.ensures.usage said)

pub returns-in-None-read_scopes_form-clause-only_usage : goal.returns-in-None-read_scopes_form-clause-only_usage
returns-in-None-read_scopes_form-clause-only_usage g c none = c.run_form.ensures.only_usage (c.read_form.ensures.form ∙ none.1)

pub returns-in-None-read_scopes_form-clause-scoped : goal.returns-in-None-read_scopes_form-clause-scoped
returns-in-None-read_scopes_form-clause-scoped g c = inl (c.in-None.ensures.form, sym c.in-None-read_scopes_form.ensures)
