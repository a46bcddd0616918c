-- What a change of several scopes is to do: for each scope the change of its plan.
use Rattle.std.specs.Prelude.{◌≡◌, ℕ, List, [], ◌∷◌, map, Ok, ⊤}
use Rattle.host_core.specs.State.{State}
use Rattle.move_core.specs.Operations.{plan_text}
use Rattle.scopes.specs.Views.{seen}
use Rattle.scope_changes.specs.Works.{ScopeWork}
use Rattle.gcu_inputs.specs.Asking.{Asking, follows_by, ◌>>>◌}
use Rattle.gcu_requests.specs.Request.{Request, ScopePlan, planned}
use Rattle.gcu_requests.specs.ScopesAsked.{ScopePlanning, scopes_asked}
use Rattle.command_answers.specs.Changing.{IsChangeFor}
use Rattle.command_answers.specs.ScopeTexts.{scopes_solved, scopes_text}

-- ---- the changes

-- of a scope the change of the plan that is asked, on what the files of the scope stand for
pub record IsWorkFor (s : State) (p : ScopePlanning) (w : ScopeWork) : Type 0 where
  pub scope : w.scope ≡ p.0
  pub change : IsChangeFor (planned p.1) (seen p.0 s) w.change (plan_text w.change.moves)

-- one for each scope, in order
abbrev pub AreWorksFor : State → List ScopePlanning → List ScopeWork → Type 0
AreWorksFor s [] [] = ⊤
AreWorksFor s [] (w ∷ ws) = ⊥
AreWorksFor s (p ∷ ps) [] = ⊥
AreWorksFor s (p ∷ ps) (w ∷ ws) = IsWorkFor s p w × AreWorksFor s ps ws

-- the changes of the scopes that the patch names, where nothing is refused
pub record AreWorks (path : List ℕ) (budget : ℕ) (s : State) (works : List ScopeWork) : Type 0 where
  pub plannings : List ScopePlanning
  pub asked : (scopes_asked path budget s).Gives (Ok plannings)
  pub each : AreWorksFor s plannings works

-- ---- the text

-- the scope with the moves of its plan
abbrev pub plan_of : ScopeWork → ScopePlan
plan_of w = (w.scope, w.change.moves)

-- the text of all plans
abbrev pub works_text : List ScopeWork → List ℕ
works_text works = scopes_text (map plan_of works)

-- ---- why nothing is done

-- what is asked before the text is printed, and nothing behind it
abbrev pub refused_asked : List ℕ → ℕ → State → Asking Request
refused_asked path budget s = scopes_solved path budget s >>> λ plans. follows_by (λ r. ⊥)
