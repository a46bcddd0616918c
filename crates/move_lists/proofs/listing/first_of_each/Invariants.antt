use Rattle.move_lists.proofs.FirstChains.{IsSeen}
use Rattle.move_lists.proofs.listing.first_of_each.Given as goal

-- the first of each move among those that were taken is noted
abbrev pub invariant-loop-chain : goal.invariant-loop-chain
invariant-loop-chain l = IsSeen l.known l.yielded l.seen
