use Rattle.plan_search.proofs.Routes.{search_answer}
use Rattle.plan_search.proofs.planning.search_by_kit.Goals as goal

pub returns-clause-answer : goal.returns-clause-answer
returns-clause-answer g c =
    search_answer c.args.ctx.now c.args.start.now c.args.goal.now c.args.budget c.find_plan.result c.find_plan.ensures.answer
