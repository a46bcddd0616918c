-- That what is asked has one answer.
use Rattle.std.specs.Prelude.{◌≡◌, ℕ, List, Result}
use Rattle.host_core.specs.State.{State}
use Rattle.gcu_output.specs.declared.outcomes.Outcome.{Outcome}
use Rattle.gcu_inputs.specs.Asking.{Asking}
use Rattle.gcu_requests.specs.Asked.{asked}

-- two right answers to a question are the same
pub record HasOneAnswer {X : Type 0} (asking : Asking X) : Type 0 where
  pub same : (r q : Result X Outcome) → asking.Gives r → asking.Gives q → r ≡ q

-- so it is of all words and states: the first refusal, or the request, is one
abbrev pub AskedIsOne : Type 0
AskedIsOne = (words : List (List ℕ)) (s : State) → HasOneAnswer (asked words s)
