use Rattle.gcu_requests.specs.InterruptionAsked.{status_asked}
use Rattle.command_answers.proofs.Querying.{query_answered}
use Rattle.reading_commands.proofs.statuses.status.Goals as goal

pub returns : goal.returns
returns g c =
    query_answered g.H.Host status_asked
    (λ h left since. g.met.H.Host.only_now h left since)
    g.met.H.Host.continues c.find_status-found.ensures c.answer_query.ensures
