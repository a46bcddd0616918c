-- What operators ask of a world, what each is told, and what becomes of the world.
use Rattle.std.specs.Prelude.{◌≡◌, ◌↔◌, ◌<◌, ◌≤◌, ◌⊎◌, ℕ, suc, Bool, IsTrue, List, [], ◌∷◌, ◌++◌, length, Option, Some, None}
use Rattle.std.specs.FinMap.{insert, remove}
use Rattle.conf_doc.specs.declared.configuration.Config.{Config}
use Rattle.move_core.specs.Contexts.{rulebook}
use Rattle.move_core.specs.Moves.{step}
use Rattle.move_core.specs.Plans.{IsPlan}
use Rattle.move_core.specs.declared.moves.Move.{Move}
use Rattle.sessions.specs.Worlds.{Session, WorldState, session_of}
use Rattle.sessions.specs.declared.replies.Reply.{Reply}
use Rattle.sessions.specs.declared.replies.Reply.TheVariants.{Began, Exists, Unknown, Refused, Moved, Idle, Applied, Retargeted, Ended}

-- what an operator aims at: a goal with a plan to it, or what is refused with a number
pub data Aim : Type 0 where
  Towards : (goal : Config) → (plan : List Move) → Aim
  Refusal : (number : ℕ) → Aim

-- a session begins with an aim, takes a step, gets another aim, or ends; each by its name
pub data Event : Type 0 where
  Begin : (name : List ℕ) → Aim → Event
  Step : (name : List ℕ) → Event
  Retarget : (name : List ℕ) → Aim → Event
  End : (name : List ℕ) → Event

-- ---- what becomes of a world

-- the session of that name has this goal and this plan, and has seen all commits
abbrev pub with_aim : WorldState → List ℕ → Config → List Move → WorldState
with_aim w name goal plan =
    let s : Session = record { goal = goal; seen = length w.commits; rest = plan } in
    record w { sessions = insert w.sessions name s }

-- the move is committed under the name and the goal of the session, which has seen that commit too
abbrev pub with_commit : WorldState → List ℕ → Config → Move → List Move → WorldState
with_commit w name goal m rest =
    let s : Session = record { goal = goal; seen = suc (length w.commits); rest = rest } in
    record w {
      config = step w.config m;
      commits = w.commits ++ record { name = name; goal = goal; mv = m } ∷ [];
      sessions = insert w.sessions name s;
    }

-- the session of that name isn't there any more
abbrev pub without_session : WorldState → List ℕ → WorldState
without_session w name = record w { sessions = remove w.sessions name }

-- ---- turns

-- this is told, and nothing changes
abbrev pub IsTold : Reply → WorldState → Reply → WorldState → Type 0
IsTold told w reply after = (reply ≡ told) × (after ≡ w)

-- with a plan from the configuration now to the goal, this is told, and the session has that aim
abbrev pub IsAimed : Reply → WorldState → List ℕ → Config → List Move → Reply → WorldState → Type 0
IsAimed told w name goal plan reply after =
    IsPlan (rulebook w.ctx) w.config goal plan
    × (reply ≡ told) × (after ≡ with_aim w name goal plan)

-- a begin, where a session of that name is there or none is
abbrev pub IsBegin : WorldState → List ℕ → Aim → Option Session → Reply → WorldState → Type 0
IsBegin w name aim (Some s) reply after = IsTold Exists w reply after
IsBegin w name (Refusal number) None reply after = IsTold (Refused number) w reply after
IsBegin w name (Towards goal plan) None reply after =
    IsAimed (Began (length plan)) w name goal plan reply after

-- a step of a session that has seen all commits, with these moves left: the next one is committed
abbrev pub IsNext : WorldState → List ℕ → Config → List Move → Reply → WorldState → Type 0
IsNext w name goal [] reply after = IsTold Idle w reply after
IsNext w name goal (m ∷ rest) reply after =
    (reply ≡ Applied m) × (after ≡ with_commit w name goal m rest)

-- a step: where there are commits that the session hasn't seen, both numbers are told
abbrev pub IsStep : WorldState → List ℕ → Option Session → Reply → WorldState → Type 0
IsStep w name None reply after = IsTold Unknown w reply after
IsStep w name (Some s) reply after =
    ((s.seen < length w.commits) × IsTold (Moved s.seen (length w.commits)) w reply after)
    ⊎ ((length w.commits ≤ s.seen) × IsNext w name s.goal s.rest reply after)

-- a retarget
abbrev pub IsRetarget
    : WorldState → List ℕ → Aim → Option Session → Reply → WorldState → Type 0
IsRetarget w name aim None reply after = IsTold Unknown w reply after
IsRetarget w name (Refusal number) (Some s) reply after = IsTold (Refused number) w reply after
IsRetarget w name (Towards goal plan) (Some s) reply after =
    IsAimed (Retargeted (length plan)) w name goal plan reply after

-- an end: the session is done exactly where the configuration now is its goal
abbrev pub IsEnd : WorldState → List ℕ → Option Session → Reply → WorldState → Type 0
IsEnd w name None reply after = IsTold Unknown w reply after
IsEnd w name (Some s) reply after =
    (done : Bool) × (IsTrue done ↔ (w.config ≡ s.goal))
    × (reply ≡ Ended done) × (after ≡ without_session w name)

-- what is told on an event, and what becomes of the world
abbrev pub IsTurn : WorldState → Event → Reply → WorldState → Type 0
IsTurn w (Begin name aim) reply after = IsBegin w name aim (session_of name w) reply after
IsTurn w (Step name) reply after = IsStep w name (session_of name w) reply after
IsTurn w (Retarget name aim) reply after = IsRetarget w name aim (session_of name w) reply after
IsTurn w (End name) reply after = IsEnd w name (session_of name w) reply after
