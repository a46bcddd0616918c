-- That words have one right answer, whichever scopes they name.
use Rattle.std.specs.Prelude.{◌≡◌, ◌⊎◌, ℕ, List, Some, Result}
use Rattle.host_core.specs.State.{State, settled, with_pending}
use Rattle.scopes.specs.Views.{seen}
use Rattle.scopes.specs.declared.scope.Scope.{Scope}
use Rattle.gcu_output.specs.declared.outcomes.Outcome.{Outcome}
use Rattle.gcu_words.specs.ScopeForm.{IsScoped, IsUnscoped}
use Rattle.gcu_words.specs.ScopesForm.{ScopesForm, scopes_form}
use Rattle.gcu_requests.specs.Asked.{asked}
use Rattle.gcu_requests.specs.Request.{Request}
use Rattle.command_answers.specs.ScopeTexts.{plan_scopes_asked}

-- the words are about one scope, and once what was pending is settled the command without the option gives it of
-- the folder as the scope shows it
abbrev pub IsRightInScope : List (List ℕ) → State → Result Request Outcome → Type 0
IsRightInScope words s r =
    (scope : Scope) × (plain : List (List ℕ)) × IsScoped words scope plain
    × (asked plain (seen scope (with_pending settled s))).Gives r

-- the words are a change of several scopes, and once what was pending is settled its plans give it
abbrev pub IsRightOverAll : List (List ℕ) → State → Result Request Outcome → Type 0
IsRightOverAll words s r =
    (change : ScopesForm) × (scopes_form words ≡ Some change)
    × (plan_scopes_asked change.path change.budget (with_pending settled s)).Gives r

-- the first refusal, or the request, of the words of any command
abbrev pub IsRightAnswer : List (List ℕ) → State → Result Request Outcome → Type 0
IsRightAnswer words s r =
    (IsUnscoped words × (asked words s).Gives r)
    ⊎ (IsRightInScope words s r ⊎ IsRightOverAll words s r)

-- two right answers to words in a state are the same
abbrev pub RightAnswersAreOne : Type 0
RightAnswersAreOne =
    (words : List (List ℕ)) (s : State) (r q : Result Request Outcome)
    → IsRightAnswer words s r → IsRightAnswer words s q → r ≡ q
