use Rattle.std.proofs.Common.{sym, subst, ◌∙◌}
use Rattle.move_core.specs.Contexts.{IsValidIn, rulebook}
use Rattle.plan_search.specs.Searches.{IsSearchAnswer}
use Rattle.plan_search.proofs.planning.search.Goals as goal

pub search_by_kit-requires-clause-goal : goal.search_by_kit-requires-clause-goal
search_by_kit-requires-clause-goal g c = subst (IsValidIn c.args.ctx.now) (sym (c.new-goal.ensures ∙ c.in-Ok.ensures.same)) c.requires.goal

pub returns-in-Ok-clause-answer : goal.returns-in-Ok-clause-answer
returns-in-Ok-clause-answer g c =
    subst (λ d. IsSearchAnswer (rulebook c.args.ctx.now) c.args.start.now d c.args.budget c.search_by_kit.result) (c.new-goal.ensures ∙ c.in-Ok.ensures.same)
    c.search_by_kit.ensures.answer
