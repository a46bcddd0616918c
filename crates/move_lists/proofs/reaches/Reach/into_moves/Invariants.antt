use Rattle.std.proofs.Common.{◌≡◌, ◌++◌, map}
use Rattle.move_lists.proofs.reaches.Reach.into_moves.Given as goal

-- the moves of those that were taken
abbrev pub invariant-loop-key : goal.invariant-loop-key
invariant-loop-key l = map (λ e. e.0) l.fn.self ≡ l.moves.items ++ map (λ e. e.0) l.key-iterator
