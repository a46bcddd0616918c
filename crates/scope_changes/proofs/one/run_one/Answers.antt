use Rattle.std.proofs.Common.{◌<◌, arith, subst, sym, ◌∙◌}
use Rattle.std.specs.Prelude.{IfErr, IfSome, OnOk}
use Rattle.std.proofs.lemmas.Result.{on_ok_weaker}
use Rattle.conf_store.specs.Folds.{StandsFor}
use Rattle.change_apply.specs.Change.{steps}
use Rattle.change_apply.specs.declared.errors.ApplyFault.TheVariants.{Print}
use Rattle.scopes.specs.Views.{seen_files}
use Rattle.scope_changes.specs.Stages.{FinishesOne, LeavesOne, StopsOne}
use Rattle.scope_changes.specs.Works.{ScopeWork}
use Rattle.scope_changes.proofs.Opening.{finished_none, finished_opened, opened_leaves, stopped_at_line, stopped_opened}
use Rattle.scope_changes.proofs.Viewing.{err_gives}
use Rattle.scope_changes.proofs.one.run_one.Goals as goal

-- ---- no steps

pub returns-then-steps-eq0-clause-ok : goal.returns-then-steps-eq0-clause-ok
returns-then-steps-eq0-clause-ok g c =
    let w : ScopeWork = record { scope = c.change.inside.scope; change = c.change.inside.ready } in
    let o = g.H.Host.told c.args.host.now in
    subst (λ (v : ScopeWork). FinishesOne v o o) c.change.view_is
    (finished_none w o (sym c.steps.ensures.steps ∙ c.if-steps-eq0.true) c.requires.clean
    (subst (λ (v : ScopeWork). IfSome o (λ s. StandsFor v.change.stored (seen_files v.scope s.files))) (sym c.change.view_is) c.requires.stands))

-- ---- its line is printed

pub returns-in-Ok-clause-ok : goal.returns-in-Ok-clause-ok
returns-in-Ok-clause-ok g c =
    let w : ScopeWork = record { scope = c.change.inside.scope; change = c.change.inside.ready } in
    let some : 0 < steps w.change = omega (arith, c.steps.ensures.steps, c.if-steps-eq0.false) in
    let host = g.H.Host in
    subst (λ (v : ScopeWork). OnOk c.run_in_scope.result (FinishesOne v (host.told c.args.host.now) (host.told c.run_in_scope.new.host))) c.change.view_is
    (on_ok_weaker c.run_in_scope.result
    (finished_opened w some c.as_bytes.result.now (host.told c.args.host.now) (host.told c.print.new.self) (host.told c.run_in_scope.new.host)
    (c.as_bytes.ensures.value ∙ c.as_str.ensures.text ∙ c.change.invariant) c.in-Ok.ensures.ok)
    c.run_in_scope.ensures.ok)

pub returns-in-Ok-clause-err : goal.returns-in-Ok-clause-err
returns-in-Ok-clause-err g c =
    let w : ScopeWork = record { scope = c.change.inside.scope; change = c.change.inside.ready } in
    let some : 0 < steps w.change = omega (arith, c.steps.ensures.steps, c.if-steps-eq0.false) in
    let host = g.H.Host in
    subst (λ (v : ScopeWork). IfErr c.run_in_scope.result (λ fault. StopsOne v fault (host.told c.args.host.now) (host.told c.run_in_scope.new.host))) c.change.view_is
    (err_gives c.run_in_scope.result
    (λ fault. stopped_opened w some fault c.as_bytes.result.now (host.told c.args.host.now) (host.told c.print.new.self) (host.told c.run_in_scope.new.host)
    (c.as_bytes.ensures.value ∙ c.as_str.ensures.text ∙ c.change.invariant) c.in-Ok.ensures.ok)
    c.run_in_scope.ensures.err)

pub returns-in-Ok-clause-leaves : goal.returns-in-Ok-clause-leaves
returns-in-Ok-clause-leaves g c =
    let w : ScopeWork = record { scope = c.change.inside.scope; change = c.change.inside.ready } in
    let some : 0 < steps w.change = omega (arith, c.steps.ensures.steps, c.if-steps-eq0.false) in
    let host = g.H.Host in
    let o = host.told c.args.host.now in
    subst (λ (v : ScopeWork). IfSome o (LeavesOne host.moment host.left_since v c.args.host.now c.run_in_scope.new.host)) c.change.view_is
    (opened_leaves w some host.moment host.left_since o (host.told c.print.new.self) c.as_bytes.result.now c.args.host.now c.print.new.self c.run_in_scope.new.host
    c.requires.clean (c.as_bytes.ensures.value ∙ c.as_str.ensures.text ∙ c.change.invariant) c.in-Ok.ensures.ok c.print.ensures.time c.run_in_scope.ensures.leaves)

-- ---- its line isn't printed

pub returns-in-Err-clause-err : goal.returns-in-Err-clause-err
returns-in-Err-clause-err g c =
    let w : ScopeWork = record { scope = c.change.inside.scope; change = c.change.inside.ready } in
    let some : 0 < steps w.change = omega (arith, c.steps.ensures.steps, c.if-steps-eq0.false) in
    let host = g.H.Host in
    subst (λ (v : ScopeWork). StopsOne v (Print 0) (host.told c.args.host.now) (host.told c.print.new.self)) c.change.view_is
    (stopped_at_line w some c.as_bytes.result.now (host.told c.args.host.now) (host.told c.print.new.self)
    (c.as_bytes.ensures.value ∙ c.as_str.ensures.text ∙ c.change.invariant) c.in-Err.ensures.err)
