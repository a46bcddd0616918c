use Rattle.std.proofs.Common.{◌≡◌, take}
use Rattle.move_lists.specs.Ranking.{chosen_moves}
use Rattle.move_lists.proofs.ranking.chosen_moves.Given as goal

-- the moves of those that were looked at
abbrev pub invariant-loop-first : goal.invariant-loop-first
invariant-loop-first l = l.moves.items ≡ chosen_moves l.choice (take l.first-index l.firsts)
