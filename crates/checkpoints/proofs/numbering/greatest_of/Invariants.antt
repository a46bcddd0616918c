use Rattle.std.proofs.Common.{◌≡◌, map, take}
use Rattle.checkpoints.specs.Answers.{numbered_view}
use Rattle.checkpoints.specs.Numbers.{greatest}
use Rattle.checkpoints.proofs.numbering.greatest_of.Given as goal

-- the greatest of those before
abbrev pub invariant-loop-numbered : goal.invariant-loop-numbered
invariant-loop-numbered l = l.greatest ≡ greatest (map numbered_view (take l.numbered-index l.all))
