use Rattle.std.proofs.Common.{◌≡◌, take}
use Rattle.move_lists.specs.Ranking.{ranked_alone}
use Rattle.move_lists.proofs.ranking.rank_alone.Given as goal

-- those that were looked at
abbrev pub invariant-loop-first : goal.invariant-loop-first
invariant-loop-first l = l.ranked.items ≡ ranked_alone l.restoring (take l.first-index l.firsts)
