-- That a change of several scopes has one right answer.
use Rattle.std.specs.Prelude.{ℕ, List}
use Rattle.host_core.specs.State.{State}
use Rattle.gcu_requests.specs.OneAnswer.{HasOneAnswer}
use Rattle.command_answers.specs.ScopeTexts.{plan_scopes_asked}

-- so it is of every patch, budget and state: the first refusal, or the plans of all scopes, is one
abbrev pub PlansOfScopesAreOne : Type 0
PlansOfScopesAreOne =
    (path : List ℕ) (budget : ℕ) (s : State) → HasOneAnswer (plan_scopes_asked path budget s)
