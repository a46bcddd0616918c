use Rattle.std.proofs.Common.{◌≡◌, false, [], refl, ap, ◌∙◌}
use Rattle.conf_store.specs.Stored.{config_in}
use Rattle.change_apply.specs.Work.{change_in}
use Rattle.change_apply.proofs.FoldStages.{first_folded, first_stops, first_unfolded, folding_first, left_at_intent}
use Rattle.change_apply.proofs.Moments.{begins}
use Rattle.change_apply.proofs.StepFiles.{untested}
use Rattle.change_apply.proofs.folds.fold_first.Goals as goal

-- ---- nothing is folded

pub returns-then-is_folded-clause-ok : goal.returns-then-is_folded-clause-ok
returns-then-is_folded-clause-ok g c =
    let is = c.if-is_folded.ensures.0 refl in
    λ began at. first_unfolded (change_in c.args.work.now) is.0 is.1 began (g.H.Host.told c.args.host.now) at

pub returns-then-is_folded-clause-any_moment : goal.returns-then-is_folded-clause-any_moment
returns-then-is_folded-clause-any_moment g c =
    λ began at.
    begins g.H.Host.moment g.H.Host.left_since (change_in c.args.work.now) began c.args.host.now
    (λ left since. left_at_intent (change_in c.args.work.now) began (g.H.Host.told c.args.host.now) at left (g.met.H.Host.only_now c.args.host.now left since))

-- ---- it is folded

pub returns-in-Ok-clause-ok : goal.returns-in-Ok-clause-ok
returns-in-Ok-clause-ok g c =
    λ began at.
    first_folded (change_in c.args.work.now) (untested c.args.work.now.stored c.if-is_folded.ensures.1)
    c.deref.result.now (ap config_in c.deref.ensures.value ∙ c.requires.ready.stored_text)
    began (g.H.Host.told c.args.host.now) (g.H.Host.told c.fold.new.host) at c.in-Ok.ensures.ok

pub returns-in-Ok-clause-any_moment : goal.returns-in-Ok-clause-any_moment
returns-in-Ok-clause-any_moment g c =
    λ began at.
    folding_first (change_in c.args.work.now) g.H.Host.moment g.H.Host.left_since (untested c.args.work.now.stored c.if-is_folded.ensures.1)
    began (g.H.Host.told c.args.host.now) c.args.host.now c.fold.new.host at c.fold.ensures.any_moment

pub returns-in-Err-clause-err : goal.returns-in-Err-clause-err
returns-in-Err-clause-err g c =
    λ began at.
    first_stops (change_in c.args.work.now) (untested c.args.work.now.stored c.if-is_folded.ensures.1)
    began (g.H.Host.told c.args.host.now) (g.H.Host.told c.fold.new.host) at c.in-Err.ensures.err

pub returns-in-Err-clause-any_moment : goal.returns-in-Err-clause-any_moment
returns-in-Err-clause-any_moment g c =
    λ began at.
    folding_first (change_in c.args.work.now) g.H.Host.moment g.H.Host.left_since (untested c.args.work.now.stored c.if-is_folded.ensures.1)
    began (g.H.Host.told c.args.host.now) c.args.host.now c.fold.new.host at c.fold.ensures.any_moment
