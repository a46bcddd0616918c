use Rattle.gcu_requests.specs.Checking.{check_asked}
use Rattle.command_answers.proofs.Querying.{query_answered}
use Rattle.reading_commands.proofs.checking.check.Goals as goal

pub returns : goal.returns
returns g c =
    query_answered g.H.Host check_asked
    (λ h left since. g.met.H.Host.only_now h left since)
    g.met.H.Host.continues c.judge_folder-found.ensures c.answer_query.ensures
