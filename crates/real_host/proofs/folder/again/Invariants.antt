-- Each call so far was interrupted.
use Rattle.std.proofs.Common.{◌≡◌, ℕ, ◌+◌}
use Rattle.real_host.specs.Turns.{AreInterrupted}
use Rattle.real_host.proofs.folder.again.Given as goal

abbrev pub invariant-loop-turn : goal.invariant-loop-turn
invariant-loop-turn g l = goal.F-IsAlwaysCallable g l.call × ((n : ℕ) × (l._turn ≡ n + 1) × AreInterrupted (goal.F-step g) n l.fn.call l.call)
