use Rattle.std.proofs.Common.{ap, subst, sym}
use Rattle.gcu_words.specs.FormView.{task_view}
use Rattle.gcu_requests.specs.WorkAsked.{dry_run_asked}
use Rattle.command_answers.specs.Frames.{FindsText}
use Rattle.reading_commands.proofs.dry_runs.find_work.Goals as goal

pub returns-in-Reach-clause-finds : goal.returns-in-Reach-clause-finds
returns-in-Reach-clause-finds g c =
    subst
    (λ t. FindsText g.H.Host (dry_run_asked t c.args.budget) c.args.host.now c.find_way.new.host c.find_way.result)
    (sym (ap task_view c.in-Reach.is)) c.find_way.ensures.finds

pub returns-in-RunScript-clause-finds : goal.returns-in-RunScript-clause-finds
returns-in-RunScript-clause-finds g c =
    subst
    (λ t. FindsText g.H.Host (dry_run_asked t c.args.budget) c.args.host.now c.rehearse.new.host c.rehearse.result)
    (sym (ap task_view c.in-RunScript.is)) c.rehearse.ensures.finds
