-- Worlds: one configuration that several operators change by turns.
use Rattle.std.specs.Prelude.{◌≡◌, ℕ, ◌≤◌, List, [], ◌∷◌, length, Option, Some}
use Rattle.std.specs.FinMap.{FinMap, empty, get}
use Rattle.host_core.specs.Names.{name_cmp}
use Rattle.conf_doc.specs.declared.configuration.Config.{Config}
use Rattle.move_core.specs.Contexts.{IsValidIn, rulebook}
use Rattle.move_core.specs.Moves.{step}
use Rattle.move_core.specs.Plans.{IsAllowed, IsPlan}
use Rattle.move_core.specs.Rulebook.{Rulebook}
use Rattle.move_core.specs.declared.contexts.Ctx.{Ctx}
use Rattle.move_core.specs.declared.moves.Move.{Move}
use Rattle.sessions.specs.declared.commits.Commit.{Commit}

-- a goal, the number of commits that the session has seen, and what is left of the plan that it got when it
-- last began or was retargeted
pub record Session : Type 0 where
  pub goal : Config
  pub seen : ℕ
  pub rest : List Move

-- sessions by their names
abbrev pub Sessions : Type 0
Sessions = FinMap name_cmp Session

-- the models and settings, the configuration at the opening and the one now, the commits so far, and the
-- sessions
pub record WorldState : Type 0 where
  pub ctx : Ctx
  pub opening : Config
  pub config : Config
  pub commits : List Commit
  pub sessions : Sessions

-- a world in which nothing has happened
abbrev pub opened : Ctx → Config → WorldState
opened ctx c =
    record { ctx = ctx; opening = c; config = c; commits = []; sessions = empty }

-- the session of that name, where it is there
abbrev pub session_of : List ℕ → WorldState → Option Session
session_of name w = get w.sessions name

-- ---- what every world keeps

-- the commits lead from a configuration to x, each allowed where it stands towards the goal that it carries
abbrev pub Leads : Rulebook → Config → List Commit → Config → Type 0
Leads book c [] x = x ≡ c
Leads book c (k ∷ ks) x = IsAllowed book k.goal c k.mv × Leads book (step c k.mv) ks x

-- it has seen no more commits than there are, and where it has seen all, its rest is a plan from the
-- configuration now to its goal
pub record IsOnCourse (w : WorldState) (s : Session) : Type 0 where
  pub seen : s.seen ≤ length w.commits
  pub plan : s.seen ≡ length w.commits → IsPlan (rulebook w.ctx) w.config s.goal s.rest

-- the opening is valid, the commits lead from it to the configuration now, and each session is on course
pub record IsKept (w : WorldState) : Type 0 where
  pub valid : IsValidIn w.ctx w.opening
  pub leads : Leads (rulebook w.ctx) w.opening w.commits w.config
  pub courses : (name : List ℕ) (s : Session) → session_of name w ≡ Some s → IsOnCourse w s
