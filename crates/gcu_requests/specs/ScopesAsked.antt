-- What a change of several scopes asks: models, rules and patch once, and then scope after scope a valid start
-- and a goal that a plan may have.
use Rattle.std.specs.Prelude.{◌≡◌, ℕ, List, Result, Ok, Err}
use Rattle.host_core.specs.State.{State}
use Rattle.conf_doc.specs.declared.configuration.Config.{Config}
use Rattle.move_core.specs.declared.contexts.Ctx.{Ctx}
use Rattle.patch_core.specs.Operation.{Operation}
use Rattle.scopes.specs.Scopes.{scope_name}
use Rattle.scopes.specs.Splitting.{Part, split}
use Rattle.scopes.specs.Views.{seen}
use Rattle.scopes.specs.declared.errors.SplitError.{SplitError}
use Rattle.scopes.specs.declared.errors.SplitError.TheVariants as error
use Rattle.scopes.specs.declared.scope.Scope.{Scope}
use Rattle.gcu_output.specs.Lines.{number}
use Rattle.gcu_output.specs.declared.outcomes.Outcome.{Outcome}
use Rattle.gcu_output.specs.declared.outcomes.Outcome.TheVariants.{BadScope, Memory, ScopeRefused}
use Rattle.gcu_inputs.specs.Asking.{Asking, follows, of_each, ◌>>>◌}
use Rattle.gcu_inputs.specs.IntentAsked.{uninterrupted}
use Rattle.gcu_inputs.specs.PatchAsked.{patch_asked, target}
use Rattle.gcu_inputs.specs.RulesAsked.{ctx_asked}
use Rattle.gcu_requests.specs.PlanAsked.{judged_asked, start_asked}
use Rattle.gcu_requests.specs.Request.{Planning}

-- ---- one scope

-- a refusal of a scope is told with its name and the number
abbrev pub refusal_of : Scope → Outcome → Outcome
refusal_of scope e = ScopeRefused (scope_name scope) (number e)

-- what is asked of a scope gives it, or that refusal of the scope
abbrev pub GivesWithin : {X : Type 0} → Scope → Asking X → Result X Outcome → Type 0
GivesWithin scope asking (Ok x) = asking.Gives (Ok x)
GivesWithin scope asking (Err e) =
    (of : Outcome) × asking.Gives (Err of) × (e ≡ refusal_of scope of)

-- the question, its refusals told of the scope
abbrev pub within : {X : Type 0} → Scope → Asking X → Asking X
within scope asking = record { Reads = asking.Reads; Gives = GivesWithin scope asking }

-- a goal that a plan may have, by operations that are there already
abbrev pub patched_goal : Ctx → ℕ → List Operation → Config → Asking Planning
patched_goal ctx budget ops start =
    follows (target ops start) >>> λ made.
    judged_asked ctx start made >>> λ goal.
    follows (Ok (record { ctx = ctx; start = start; goal = goal; budget = budget }))

-- the same from a valid start
abbrev pub patched_ends : Ctx → ℕ → List Operation → State → Asking Planning
patched_ends ctx budget ops s =
    start_asked ctx s >>> λ start.
    patched_goal ctx budget ops start

-- what a plan needs in a folder, where no change is under way
abbrev pub patched_asked : Ctx → ℕ → List Operation → State → Asking Planning
patched_asked ctx budget ops s = uninterrupted s >>> λ _. patched_ends ctx budget ops s

-- ---- all scopes

-- a scope with what its plan needs
abbrev pub ScopePlanning : Type 0
ScopePlanning = Scope × Planning

-- what the plan of a scope needs
abbrev pub part_asked : Ctx → ℕ → State → Part → Asking ScopePlanning
part_asked ctx budget s part =
    within part.0 (patched_asked ctx budget part.1 (seen part.0 s)) >>> λ p.
    follows (Ok (part.0, p))

-- an operation in no scope is refused
abbrev pub split_answer : Result (List Part) SplitError → Result (List Part) Outcome
split_answer (Ok parts) = Ok parts
split_answer (Err (error.BadScope index)) = Err (BadScope index)
split_answer (Err error.Memory) = Err Memory

-- what the plans of all scopes need, scope after scope, where nothing is pending
abbrev pub scopes_asked : List ℕ → ℕ → State → Asking (List ScopePlanning)
scopes_asked path budget s =
    uninterrupted s >>> λ _.
    ctx_asked s >>> λ ctx.
    patch_asked path s >>> λ ops.
    follows (split_answer (split ops)) >>> λ parts.
    of_each (part_asked ctx budget s) parts
