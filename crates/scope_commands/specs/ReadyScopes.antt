-- What is ready before the changes of several scopes are begun.
use Rattle.std.specs.Prelude.{◌≡◌, ℕ, List, [], ◌∷◌, flat_map, get_or, length}
use Rattle.std.specs.List.{AllByRecursion}
use Rattle.move_core.specs.declared.settings.Settings.{Settings}
use Rattle.change_apply.specs.Change.{steps}
use Rattle.change_apply.specs.declared.ready.Restart.{Restart}
use Rattle.scope_changes.specs.Works.{ScopeWork, all_steps}
use Rattle.gcu_requests.specs.declared.scopes_planning.ScopeEnds.{ScopeEnds}
use Rattle.writing_commands.specs.Doing.{change_by}
use Rattle.writing_commands.specs.FaultLines.{AreFaultLines, AreNamed}
use Rattle.scope_commands.specs.ScopeWorks.{works_text}
use Rattle.scope_commands.specs.declared.change_scopes.ReadyScopes.{ReadyScopes}
use Rattle.scope_commands.specs.declared.plan_scopes.ScopePlan as code

-- the change of a scope by its plan, on what was loaded
abbrev pub work_by : Settings → ScopeEnds → code.ScopePlan → ScopeWork
work_by settings e p =
    record { scope = e.scope; change = change_by settings e.ends.stored p.plan }

-- those of all scopes
abbrev pub works_by : Settings → List ScopeEnds → List code.ScopePlan → List ScopeWork
works_by settings [] ps = []
works_by settings (e ∷ es) [] = []
works_by settings (e ∷ es) (p ∷ ps) = work_by settings e p ∷ works_by settings es ps

-- the restarts of each step of all scopes, in order
abbrev pub restarts_in : List ScopeWork → List (List Restart)
restarts_in works = flat_map (λ w. w.change.restarts) works

-- each step has its restarts
abbrev pub AreLong : List ScopeWork → Type 0
AreLong works = AllByRecursion (λ w. length w.change.restarts ≡ steps w.change) works

-- the bytes are those of the changes
pub record HasAllBytes (ready : ReadyScopes) : Type 0 where
  pub text : ready.text.items ≡ works_text ready.changes
  pub steps_are : ready.steps ≡ all_steps ready.changes
  pub long : AreLong ready.changes
  pub lines_are : AreFaultLines (restarts_in ready.changes) ready.lines
  pub settings : Settings
  pub named : (k : ℕ) → AreNamed settings (get_or (restarts_in ready.changes) k [])
