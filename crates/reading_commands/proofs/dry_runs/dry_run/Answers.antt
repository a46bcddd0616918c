use Rattle.gcu_words.specs.FormView.{task_view}
use Rattle.gcu_requests.specs.WorkAsked.{dry_run_asked}
use Rattle.command_answers.proofs.Querying.{query_answered}
use Rattle.reading_commands.proofs.dry_runs.dry_run.Goals as goal

pub returns-clause-does : goal.returns-clause-does
returns-clause-does g c =
    query_answered g.H.Host (dry_run_asked (task_view c.args.task) c.args.budget)
    (λ h left since. g.met.H.Host.only_now h left since)
    g.met.H.Host.continues c.find_work-found.ensures.finds c.answer_query.ensures
