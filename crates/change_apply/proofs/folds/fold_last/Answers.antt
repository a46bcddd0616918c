use Rattle.change_apply.proofs.LastFold.{fold_fails, goal_names, steps_folded, while_folded}
use Rattle.change_apply.proofs.folds.fold_last.Goals as goal

pub fold-requires-clause-names : goal.fold-requires-clause-names
fold-requires-clause-names g c = goal_names c.args.work.now c.requires.ready

pub returns-in-Ok-clause-ok : goal.returns-in-Ok-clause-ok
returns-in-Ok-clause-ok g c =
    λ began at.
    steps_folded c.args.work.now c.requires.ready c.deref.result.now c.deref.ensures.value
    began (g.H.Host.told c.args.host.now) (g.H.Host.told c.fold.new.host) at c.in-Ok.ensures.ok

pub returns-in-Ok-clause-any_moment : goal.returns-in-Ok-clause-any_moment
returns-in-Ok-clause-any_moment g c =
    λ began at.
    while_folded c.args.work.now c.requires.ready g.H.Host.moment g.H.Host.left_since began (g.H.Host.told c.args.host.now) c.args.host.now c.fold.new.host at c.fold.ensures.any_moment

pub returns-in-Err-clause-err : goal.returns-in-Err-clause-err
returns-in-Err-clause-err g c =
    λ began at.
    fold_fails c.args.work.now c.requires.ready c.len-step.result c.len-step.ensures
    began (g.H.Host.told c.args.host.now) (g.H.Host.told c.fold.new.host) at c.in-Err.ensures.err

pub returns-in-Err-clause-any_moment : goal.returns-in-Err-clause-any_moment
returns-in-Err-clause-any_moment g c =
    λ began at.
    while_folded c.args.work.now c.requires.ready g.H.Host.moment g.H.Host.left_since began (g.H.Host.told c.args.host.now) c.args.host.now c.fold.new.host at c.fold.ensures.any_moment
