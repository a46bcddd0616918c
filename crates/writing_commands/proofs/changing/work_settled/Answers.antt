use Rattle.std.proofs.Common.{sym, subst, IfSome}
use Rattle.gcu_words.specs.FormView.{task_view}
use Rattle.gcu_words.specs.declared.tasks.Task.{Task}
use Rattle.gcu_requests.specs.WorkAsked.{work_asked}
use Rattle.writing_commands.specs.Doing.{IsPrepared}
use Rattle.writing_commands.proofs.changing.work_settled.Goals as goal

pub returns-in-Reach-clause-prepared : goal.returns-in-Reach-clause-prepared
returns-in-Reach-clause-prepared g c =
    subst (λ (t : Task). IfSome (g.H.Host.told c.args.host.now)
    (λ s. IsPrepared (work_asked (task_view t) c.args.budget s) s c.plan_settled.result)) (sym c.in-Reach.is)
    c.plan_settled.ensures.prepared

pub returns-in-RunScript-clause-prepared : goal.returns-in-RunScript-clause-prepared
returns-in-RunScript-clause-prepared g c =
    subst (λ (t : Task). IfSome (g.H.Host.told c.args.host.now)
    (λ s. IsPrepared (work_asked (task_view t) c.args.budget s) s c.commits_settled.result))
    (sym c.in-RunScript.is)
    c.commits_settled.ensures.prepared
