use Rattle.std.proofs.Common.{[], take}
use Rattle.move_lists.specs.Ranking.{AddsExtended}
use Rattle.move_lists.proofs.ranking.rank_reached.Given as goal

-- those before the index are added
abbrev pub invariant-loop-i : goal.invariant-loop-i
invariant-loop-i l = AddsExtended (take l.i l.reached) l.tier l.least [] l.ranked.items
