use Rattle.gcu_requests.specs.Asked.{list_asked}
use Rattle.command_answers.proofs.Querying.{query_answered}
use Rattle.reading_commands.proofs.point_listing.list_checkpoints.Goals as goal

pub returns : goal.returns
returns g c =
    query_answered g.H.Host list_asked
    (λ h left since. g.met.H.Host.only_now h left since)
    g.met.H.Host.continues c.find_lines-found.ensures c.answer_query.ensures
