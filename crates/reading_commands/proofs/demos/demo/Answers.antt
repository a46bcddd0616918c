use Rattle.gcu_requests.specs.DemoAsked.{demo_asked}
use Rattle.command_answers.proofs.Querying.{query_answered}
use Rattle.reading_commands.proofs.demos.demo.Goals as goal

pub returns-clause-does : goal.returns-clause-does
returns-clause-does g c =
    query_answered g.H.Host (demo_asked c.args.size.seed c.args.size.ports)
    (λ h left since. g.met.H.Host.only_now h left since)
    g.met.H.Host.continues c.find_summary-found.ensures.finds c.answer_query.ensures
