use Rattle.std.proofs.Common.{List, length, refl, subst, ◌∙◌, sym, ap}
use Rattle.std.specs.Prelude.{IfSome}
use Rattle.conf_store.specs.Folds.{StandsFor}
use Rattle.change_apply.specs.Ends.{Finishes}
use Rattle.change_apply.specs.Work.{change_in}
use Rattle.change_apply.specs.declared.ready.ReadyStep.{ReadyStep}
use Rattle.change_apply.proofs.DueSteps.{count_is}
use Rattle.change_apply.proofs.IntentStages.{at_beginning, left_at_beginning, nothing_to_do}
use Rattle.change_apply.proofs.Moments.{LeavesOf, begins, joins}
use Rattle.change_apply.proofs.running.run.Goals as goal

-- ---- there is no step

pub returns-then-is_empty-clause-ok : goal.returns-then-is_empty-clause-ok
returns-then-is_empty-clause-ok g c =
    let o = g.H.Host.told c.args.host.now in
    let work = c.ready.inside.work in
    let stands = subst (λ change. IfSome o (λ s. StandsFor change.stored s.files)) (sym c.ready.view_is) c.requires.stands in
    subst (λ change. Finishes change o o) c.ready.view_is
    (nothing_to_do (change_in work) (count_is work ∙ ap (λ (l : List ReadyStep). length l) (c.if-is_empty.ensures.0 refl)) o c.requires.clean stands)

pub returns-then-is_empty-clause-any_moment : goal.returns-then-is_empty-clause-any_moment
returns-then-is_empty-clause-any_moment g c =
    let o = g.H.Host.told c.args.host.now in
    let work = c.ready.inside.work in
    let stands = subst (λ change. IfSome o (λ s. StandsFor change.stored s.files)) (sym c.ready.view_is) c.requires.stands in
    subst (λ change. LeavesOf g.H.Host.moment g.H.Host.left_since change o c.args.host.now c.args.host.now) c.ready.view_is
    (begins g.H.Host.moment g.H.Host.left_since (change_in work) o c.args.host.now
    (λ left since. left_at_beginning (change_in work) o o (at_beginning (change_in work) o c.requires.clean stands) left (g.met.H.Host.only_now c.args.host.now left since)))

-- ---- what each part needs

pub begin_change-requires-clause-stage : goal.begin_change-requires-clause-stage
begin_change-requires-clause-stage g c =
    let o = g.H.Host.told c.args.host.now in
    let stands = subst (λ change. IfSome o (λ s. StandsFor change.stored s.files)) (sym c.ready.view_is) c.requires.stands in
    (o, at_beginning (change_in c.ready.inside.work) o c.requires.clean stands)

pub end_change-requires-clause-stage : goal.end_change-requires-clause-stage
end_change-requires-clause-stage g c =
    let o = g.H.Host.told c.args.host.now in
    let stands = subst (λ change. IfSome o (λ s. StandsFor change.stored s.files)) (sym c.ready.view_is) c.requires.stands in
    let at = at_beginning (change_in c.ready.inside.work) o c.requires.clean stands in
    (o, c.in_ok-do_steps.ensures.ok o (c.in_ok-begin_change.ensures.ok o at))

-- ---- what a crash leaves

pub returns-in_err-do_steps-clause-any_moment : goal.returns-in_err-do_steps-clause-any_moment
returns-in_err-do_steps-clause-any_moment g c =
    let o = g.H.Host.told c.args.host.now in
    let work = c.ready.inside.work in
    let stands = subst (λ change. IfSome o (λ s. StandsFor change.stored s.files)) (sym c.ready.view_is) c.requires.stands in
    let at = at_beginning (change_in work) o c.requires.clean stands in
    subst (λ change. LeavesOf g.H.Host.moment g.H.Host.left_since change o c.args.host.now c.do_steps.new.host) c.ready.view_is
    (joins g.H.Host.moment g.H.Host.left_since (change_in work) o c.args.host.now c.begin_change.new.host c.do_steps.new.host
    (c.begin_change.ensures.any_moment o at) (c.do_steps.ensures.any_moment o (c.in_ok-begin_change.ensures.ok o at)))

pub returns-clause-any_moment : goal.returns-clause-any_moment
returns-clause-any_moment g c =
    let o = g.H.Host.told c.args.host.now in
    let work = c.ready.inside.work in
    let stands = subst (λ change. IfSome o (λ s. StandsFor change.stored s.files)) (sym c.ready.view_is) c.requires.stands in
    let at = at_beginning (change_in work) o c.requires.clean stands in
    let folded = c.in_ok-begin_change.ensures.ok o at in
    subst (λ change. LeavesOf g.H.Host.moment g.H.Host.left_since change o c.args.host.now c.end_change.new.host) c.ready.view_is
    (joins g.H.Host.moment g.H.Host.left_since (change_in work) o c.args.host.now c.do_steps.new.host c.end_change.new.host
    (joins g.H.Host.moment g.H.Host.left_since (change_in work) o c.args.host.now c.begin_change.new.host c.do_steps.new.host
    (c.begin_change.ensures.any_moment o at) (c.do_steps.ensures.any_moment o folded))
    (c.end_change.ensures.any_moment o (c.in_ok-do_steps.ensures.ok o folded)))
