use Rattle.std.proofs.Common.{◌≡◌, take}
use Rattle.sessions.specs.Runs.{moves_of}
use Rattle.operators.proofs.commits.moves_of.Given as goal

-- the moves of the first k commits
abbrev pub invariant-loop-k : goal.invariant-loop-k
invariant-loop-k l = l.plan ≡ moves_of (take l.k l.commits)
