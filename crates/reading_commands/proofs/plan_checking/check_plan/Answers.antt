use Rattle.gcu_requests.specs.PlanCheckAsked.{check_plan_asked}
use Rattle.command_answers.proofs.Querying.{query_answered}
use Rattle.reading_commands.proofs.plan_checking.check_plan.Goals as goal

pub returns : goal.returns
returns g c =
    query_answered g.H.Host (check_plan_asked c.args.patch.now c.args.plan.now)
    (λ h left since. g.met.H.Host.only_now h left since)
    g.met.H.Host.continues c.find_count-found.ensures c.answer_query.ensures
