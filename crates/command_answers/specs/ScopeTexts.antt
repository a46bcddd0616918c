-- What a change of several scopes prints, and its plans.
use Rattle.std.specs.Prelude.{ℕ, List, [], ◌∷◌, ◌++◌, codes, Result, Ok, Err}
use Rattle.host_core.specs.State.{State}
use Rattle.move_core.specs.Operations.{plan_text}
use Rattle.move_core.specs.declared.moves.Move.{Move}
use Rattle.scopes.specs.Scopes.{scope_name}
use Rattle.scopes.specs.declared.scope.Scope.{Scope}
use Rattle.gcu_output.specs.Lines.{line_feed}
use Rattle.gcu_output.specs.declared.outcomes.Outcome.{Outcome}
use Rattle.gcu_inputs.specs.Asking.{Asking, follows, follows_by, of_each, ◌>>>◌}
use Rattle.gcu_requests.specs.Request.{Planning, Request, ScopePlan, plan_scopes}
use Rattle.gcu_requests.specs.ScopesAsked.{ScopePlanning, scopes_asked, within}
use Rattle.command_answers.specs.Plannings.{HasNone, IsPlanFor}

-- ---- the text

-- the line before the plan of a scope
abbrev pub scope_line : Scope → List ℕ
scope_line scope = codes "scope " ++ scope_name scope ++ line_feed

-- scope after scope, its line and its plan
abbrev pub scopes_text : List ScopePlan → List ℕ
scopes_text [] = []
scopes_text (p ∷ ps) = scope_line p.0 ++ plan_text p.1 ++ scopes_text ps

-- ---- the plans

-- the plan is right, or there is none for that reason
abbrev pub IsSolvedBy : Planning → Result (List Move) Outcome → Type 0
IsSolvedBy p (Ok ms) = IsPlanFor p ms
IsSolvedBy p (Err e) = HasNone p e

-- the plan of a scope
abbrev pub solved_asked : ScopePlanning → Asking ScopePlan
solved_asked p =
    within p.0 (follows_by (IsSolvedBy p.1)) >>> λ ms.
    follows (Ok (p.0, ms))

-- the plans of all scopes, in order: none is searched for before all scopes are looked at
abbrev pub scopes_solved : List ℕ → ℕ → State → Asking (List ScopePlan)
scopes_solved path budget s = scopes_asked path budget s >>> of_each solved_asked

-- `apply-scopes PATH --dry-run`, where nothing is pending
abbrev pub plan_scopes_asked : List ℕ → ℕ → State → Asking Request
plan_scopes_asked path budget s =
    scopes_solved path budget s >>> λ plans. follows (Ok (plan_scopes plans))
