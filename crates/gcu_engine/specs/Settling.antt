-- A command that writes, on a host on which something may be pending when it begins.
use Rattle.std.specs.Prelude.{◌≡◌, ◌⊎◌, ℕ, List, Some, ⊤}
use Rattle.host_core.specs.Crashes.{Image, Left}
use Rattle.host_core.specs.State.{State, settled, with_pending}
use Rattle.gcu_words.specs.Form.{Form, abandon, change, delete_checkpoint, form, migrate_checkpoints, save_checkpoint}
use Rattle.gcu_words.specs.Tasks.{Task}
use Rattle.command_answers.specs.Crashes.{LeftMeanwhile}
use Rattle.gcu_engine.specs.Headline.{IsUnacknowledged, IsWhole}
use Rattle.gcu_engine.specs.Intending.{HasIntent}

-- it writes nothing; or it settles first what is pending, and what a crash leaves that it couldn't have left when
-- the command began is right of the same state with nothing pending
abbrev pub SettlesFirst : Task → List (List ℕ) → State
    → (IsLeftBefore IsLeftSince : Left → Type 0) → Type 0
SettlesFirst task words s IsLeftBefore IsLeftSince =
    ((left : Left) → IsLeftSince left → IsUnacknowledged task s left)
    ⊎ ((left : Left) → IsLeftSince left → IsLeftBefore left
    ⊎ (IsWhole words (with_pending settled s) left × HasIntent task (with_pending settled s) left))

-- so it is of each command that does a task
abbrev pub SettlesTasks : List (List ℕ) → State
    → (IsLeftBefore IsLeftSince : Left → Type 0) → Type 0
SettlesTasks words s IsLeftBefore IsLeftSince =
    (task : Task) (budget : ℕ) → form words ≡ Some (change task budget)
    → SettlesFirst task words s IsLeftBefore IsLeftSince

-- ---- a command that writes and does no task

-- those of checkpoints that change them, and the one that gives a change up
abbrev pub IsWriting : Form → Type 0
IsWriting (save_checkpoint name) = ⊤
IsWriting (delete_checkpoint name) = ⊤
IsWriting migrate_checkpoints = ⊤
IsWriting abandon = ⊤
IsWriting other = ⊥

-- each file is as it might have been left when the command began; or it settles first what is pending, and what a
-- crash leaves that it couldn't have left then is that of the same state with nothing pending
abbrev pub SettlesWrites : List (List ℕ) → State
    → (IsLeftBefore IsLeftSince : Left → Type 0) → Type 0
SettlesWrites words s IsLeftBefore IsLeftSince =
    (f : Form) → form words ≡ Some f → IsWriting f
    → ((left : Left) → IsLeftSince left → Image s.pending s.files left.files)
    ⊎ ((left : Left) → IsLeftSince left → IsLeftBefore left
    ⊎ (IsWhole words (with_pending settled s) left
    × LeftMeanwhile words (Some (with_pending settled s)) left))
