-- Sessions as the code keeps them: by name, each with what is left of its plan.
use Rattle.std.specs.Prelude.{◌≡◌, ◌≤◌, ℕ, List, ◌∷◌, drop, map, string_bytes, String}
use Rattle.std.specs.declared.alloc.Global.{Global}
use Rattle.std.specs.FinMap.{from_entries}
use Rattle.move_core.specs.declared.moves.Move.{Move}
use Rattle.sessions.specs.Worlds.{Session, Sessions}
use Rattle.sessions.specs.declared.commits.Commit.{Commit}

-- a session with its name
abbrev pub named : String Global × Session → List ℕ × Session
named e = (string_bytes e.0, e.1)

-- the sessions of these names
abbrev pub sessions_in : List (String Global × Session) → Sessions
sessions_in entries = from_entries (map named entries)

-- the session after its next move, where it has seen so many commits
abbrev pub after_move : ℕ → Session → Session
after_move seen s = record { goal = s.goal; seen = seen; rest = drop 1 s.rest }

-- the commit is the next move of the session, which has seen as many as there are, under its goal
pub record IsNextOf (k : Commit) (count : ℕ) (s : Session) : Type 0 where
  pub seen : count ≤ s.seen
  pub goal : k.goal ≡ s.goal
  pub rest : List Move
  pub moves : s.rest ≡ k.mv ∷ rest
