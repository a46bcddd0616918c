-- What a crash leaves at a moment of a change of several scopes.
use Rattle.std.specs.Prelude.{◌≡◌, ◌⊎◌, ℕ, List, ◌++◌, Option, Some, None, ⊤}
use Rattle.host_core.specs.Crashes.{Left, MayLeaveInPrint}
use Rattle.host_core.specs.State.{State, printed}
use Rattle.scope_changes.specs.Crashes.{IsLeftAmong}
use Rattle.scope_changes.specs.Works.{ScopeWork}
use Rattle.gcu_output.specs.declared.outcomes.Outcome.{Outcome}
use Rattle.command_answers.specs.Crashes.{LeftOf}
use Rattle.scope_commands.specs.ScopeEndings.{IsLastOfAll}
use Rattle.scope_commands.specs.ScopeWorks.{AreWorks, refused_asked, works_text}

-- what the changes leave while their last line is printed, behind all that was printed before
pub record LeftInLast (works : List ScopeWork) (began : State) (left : Left) : Type 0 where
  pub now : State
  pub answer : Outcome
  pub part : List ℕ
  pub rest : List ℕ
  pub line : IsLastOfAll works began now answer (part ++ rest)
  pub output : left.output ≡ now.output ++ part
  pub is : IsLeftAmong works began (record left { output = now.output })

-- what they leave once the text of all plans is printed: the scopes before one are done, that one is under way,
-- and those after it are as they were
abbrev pub LeftAmongScopes : List ScopeWork → State → Left → Type 0
LeftAmongScopes works began left = IsLeftAmong works began left ⊎ LeftInLast works began left

-- what they leave from that text on
abbrev pub LeftDoingScopes : List ScopeWork → State → Left → Type 0
LeftDoingScopes works s left =
    MayLeaveInPrint (works_text works) (Some s) left
    ⊎ LeftAmongScopes works (printed (works_text works) s) left

-- what was there, with a front of what is refused, or what the changes leave that the patch asks for
abbrev pub LeftOfScopes : List ℕ → ℕ → Option State → Left → Type 0
LeftOfScopes path budget None left = ⊤
LeftOfScopes path budget (Some before) left =
    LeftOf (refused_asked path budget before) before left
    ⊎ ((works : List ScopeWork) × AreWorks path budget before works
    × LeftDoingScopes works before left)
