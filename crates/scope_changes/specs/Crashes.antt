-- What a crash at any moment of the changes of several scopes leaves.
use Rattle.std.specs.Prelude.{◌≡◌, ◌⊎◌, ℕ, ◌<◌, ◌≤◌, List, [], ◌∷◌, ◌++◌}
use Rattle.host_core.specs.Crashes.{Left}
use Rattle.host_core.specs.State.{IsFront, State}
use Rattle.change_apply.specs.Change.{steps}
use Rattle.change_apply.specs.Crashes.{IsLeft}
use Rattle.scopes.specs.Views.{seen_left}
use Rattle.scope_changes.specs.Ends.{AreParted, begun}
use Rattle.scope_changes.specs.Works.{ScopeWork, all_lines, all_restarts, next_line}

-- one scope is under way: those before it are done, it is left as by its own change, the others are as before
pub record IsLeftWithin (works : List ScopeWork) (s : State) (left : Left) : Type 0 where
  pub done : List ScopeWork
  pub at : ScopeWork
  pub due : List ScopeWork
  pub are : works ≡ done ++ at ∷ due
  pub some : 0 < steps at.change
  pub under_way : IsLeft at.change (begun done at s) (seen_left at.scope left)
  pub files : AreParted done due (done ++ at ∷ []) s.files left.files

-- none is under way: the first ones are done, the others as before, and a front of the next line is printed
pub record IsLeftBetween (works : List ScopeWork) (s : State) (left : Left) : Type 0 where
  pub done : List ScopeWork
  pub due : List ScopeWork
  pub are : works ≡ done ++ due
  pub part : List ℕ
  pub rest : List ℕ
  pub line : next_line due ≡ part ++ rest
  pub output : left.output ≡ s.output ++ all_lines done ++ part
  pub restarts : left.restarts ≡ s.restarts ++ all_restarts done
  pub files : AreParted done due done s.files left.files

-- one of the two
abbrev pub IsLeftAmong : List ScopeWork → State → Left → Type 0
IsLeftAmong works s left = IsLeftWithin works s left ⊎ IsLeftBetween works s left

-- A crash at any moment since the earlier host, which was in that state, leaves something that has P.
pub record LeavesSince
    {H : Type 0} (moment : H → ℕ) (left_since : H → ℕ → Left → Type 0) (old new : H) (s : State)
    (P : Left → Type 0) : Type 0 where
  pub later : moment old ≤ moment new
  pub each : (left : Left) → left_since new (moment old) left → P left
  -- for a run that began earlier, and of which no crash left more output than there was
  pub before :
      (t : ℕ) → t ≤ moment old
      → ((left : Left) → left_since old t left → IsFront left.output s.output)
      → (left : Left) → left_since new t left → left_since old t left ⊎ P left
