-- What is read for the plans of several scopes.
use Rattle.std.specs.Prelude.{◌≡◌, ◌<◌, ◌≤◌, ◌⊎◌, ℕ, List, [], ◌∷◌, map, Option, ⊤}
use Rattle.host_core.specs.Crashes.{Left, MayLeaveNow}
use Rattle.host_core.specs.State.{State}
use Rattle.conf_store.specs.Folds.{StandsFor}
use Rattle.move_core.specs.declared.contexts.Ctx.{Ctx}
use Rattle.patch_core.specs.Operation.{Operation}
use Rattle.scopes.specs.Splitting.{scopes_of}
use Rattle.scopes.specs.Views.{seen_files}
use Rattle.scopes.specs.declared.scope.Scope.{Scope}
use Rattle.gcu_output.specs.declared.outcomes.Outcome.{Outcome}
use Rattle.gcu_output.specs.declared.outcomes.Outcome.TheVariants.{DiskFault, InputFault, Memory}
use Rattle.gcu_requests.specs.ReadPlannings.{IsReadyToSearch}
use Rattle.gcu_requests.specs.Request as request
use Rattle.gcu_requests.specs.ScopesAsked.{ScopePlanning, refusal_of}
use Rattle.gcu_requests.specs.declared.scopes_planning.Ends.{Ends}
use Rattle.gcu_requests.specs.declared.scopes_planning.ScopeEnds.{ScopeEnds}
use Rattle.gcu_requests.specs.declared.scopes_planning.ScopesPlanning.{ScopesPlanning}

-- ---- one scope

-- what a plan needs, as a request has it
abbrev pub plan_in : Ctx → ℕ → Ends → request.Planning
plan_in ctx budget e =
    record { ctx = ctx; start = e.stored.config; goal = e.goal; budget = budget }

-- the same with its scope
abbrev pub scope_planning : Ctx → ℕ → ScopeEnds → ScopePlanning
scope_planning ctx budget e = (e.scope, plan_in ctx budget e.ends)

-- a search may be made from the one to the other, with every budget
abbrev pub IsReadyBetween : Ctx → Ends → Type 0
IsReadyBetween ctx e =
    (budget : ℕ) → 0 < budget
    → IsReadyToSearch (record { ctx = ctx; stored = e.stored; goal = e.goal; budget = budget })

-- the refusal of a scope, or want of memory to tell it; a fault and want of memory stay what they are
abbrev pub IsRefusalOf : Scope → Outcome → Outcome → Type 0
IsRefusalOf scope Memory result = result ≡ Memory
IsRefusalOf scope InputFault result = result ≡ InputFault
IsRefusalOf scope (DiskFault step) result = result ≡ DiskFault step
IsRefusalOf scope other result = (result ≡ Memory) ⊎ (result ≡ refusal_of scope other)

-- ---- all scopes

-- what the plans of all scopes need, as a request has it
abbrev pub plans_of : ScopesPlanning → List ScopePlanning
plans_of all = map (scope_planning all.ctx all.budget) all.scopes

-- a search may be made in each
abbrev pub AreReady : Ctx → List ScopeEnds → Type 0
AreReady ctx [] = ⊤
AreReady ctx (e ∷ es) = IsReadyBetween ctx e.ends × AreReady ctx es

-- what was loaded is what the files of each scope stand for
abbrev pub StandsInEach : List ScopeEnds → State → Type 0
StandsInEach [] s = ⊤
StandsInEach (e ∷ es) s =
    StandsFor e.ends.stored (seen_files e.scope s.files) × StandsInEach es s

-- the scopes are those of some operations, in their order
abbrev pub AreInOrder : List ScopeEnds → Type 0
AreInOrder es = (ops : List Operation) × (map (λ e. e.scope) es ≡ scopes_of ops)

-- ---- a host that several views were made of

-- It tells the same, and where a crash since some moment left what is there, it still does.
pub record IsStill {H : Type 0} (told : H → Option State) (moment : H → ℕ)
    (left_since : H → ℕ → Left → Type 0) (old new : H) : Type 0 where
  pub tells : told new ≡ told old
  pub later : moment old ≤ moment new
  pub stays : (t : ℕ) → t ≤ moment old
      → ((left : Left) → left_since old t left → MayLeaveNow (told old) left)
      → (left : Left) → left_since new t left → MayLeaveNow (told old) left
