-- Runs: one turn after another, and what holds of them.
use Rattle.std.specs.Prelude.{◌≡◌, ℕ, List, [], ◌∷◌, ◌++◌, length, map, Some}
use Rattle.move_core.specs.declared.moves.Move.{Move}
use Rattle.sessions.specs.Turns.{Event, Step, IsTurn}
use Rattle.sessions.specs.Worlds.{Session, WorldState, session_of}
use Rattle.sessions.specs.declared.commits.Commit.{Commit}
use Rattle.sessions.specs.declared.replies.Reply.{Reply}
use Rattle.sessions.specs.declared.replies.Reply.TheVariants.{Applied}

-- an event, and what is told on it
abbrev pub Turn : Type 0
Turn = Event × Reply

-- each turn goes on where the one before it ended
abbrev pub IsRun : WorldState → List Turn → WorldState → Type 0
IsRun w [] after = after ≡ w
IsRun w (t ∷ ts) after = (next : WorldState) × IsTurn w t.0 t.1 next × IsRun next ts after

-- the moves of commits
abbrev pub moves_of : List Commit → List Move
moves_of commits = map (λ k. k.mv) commits

-- the run has a step that made this commit behind the first i: of the session of its name, whose goal then
-- was the goal that it carries
pub record IsMadeBy (w : WorldState) (turns : List Turn) (i : ℕ) (k : Commit) : Type 0 where
  pub before : List Turn
  pub behind : List Turn
  pub turns_are : turns ≡ before ++ (Step k.name, Applied k.mv) ∷ behind
  pub at : WorldState
  pub run : IsRun w before at
  pub count : length at.commits ≡ i
  pub session : Session
  pub there : session_of k.name at ≡ Some session
  pub goal : session.goal ≡ k.goal
