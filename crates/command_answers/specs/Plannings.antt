-- How the search for a plan ends.
use Rattle.std.specs.Prelude.{List, Ok, Err}
use Rattle.move_core.specs.Contexts.{rulebook}
use Rattle.move_core.specs.declared.moves.Move.{Move}
use Rattle.plan_search.specs.Searches.{IsSearchAnswer}
use Rattle.plan_search.specs.declared.errors.SearchError.{SearchError}
use Rattle.plan_search.specs.declared.errors.SearchError.TheVariants as search
use Rattle.gcu_output.specs.declared.outcomes.Outcome.{Outcome}
use Rattle.gcu_output.specs.declared.outcomes.Outcome.TheVariants.{Unorderable, Budget}
use Rattle.gcu_requests.specs.Request.{Planning, Request, Work, change, demo, operated, plan, planned}

-- each move is allowed where it stands, the last one leads to the goal, and there are fewer than the
-- budget; it is the first way, and fewer configurations than the budget are ahead of goal
abbrev pub IsPlanFor : Planning → List Move → Type 0
IsPlanFor p ms = IsSearchAnswer (rulebook p.ctx) p.start p.goal p.budget (Ok ms)

-- the search gives no plan for that reason
abbrev pub HasNoPlan : Planning → SearchError → Type 0
HasNoPlan p e = IsSearchAnswer (rulebook p.ctx) p.start p.goal p.budget (Err e)

-- the answer that no plan is found
abbrev pub HasNone : Planning → Outcome → Type 0
HasNone p Unorderable = HasNoPlan p search.Unorderable
HasNone p (Budget n) = HasNoPlan p (search.Budget n)
HasNone p other = ⊥

-- the same of a work: operators are told themselves of a search that finds none
abbrev pub HasNoWork : Work → Outcome → Type 0
HasNoWork (planned p) answer = HasNone p answer
HasNoWork (operated p) answer = ⊥

-- the answer that a plan is searched for and none is found
abbrev pub IsUnsolved : Request → Outcome → Type 0
IsUnsolved (plan w) answer = HasNoWork w answer
IsUnsolved (change w) answer = HasNoWork w answer
IsUnsolved (demo p ports) answer = HasNone p answer
IsUnsolved other answer = ⊥
