-- What is seen of a world.
use Rattle.sessions.specs.Worlds.{WorldState}
use Rattle.sessions.specs.declared.worlds.World.TheInside.{Inside}

-- its parts as they are
abbrev pub state_of : Inside → WorldState
state_of w = record {
  ctx = w.ctx;
  opening = w.opening;
  config = w.config;
  commits = w.commits;
  sessions = w.sessions;
}
