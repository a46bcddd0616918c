use Rattle.std.proofs.Common.{◌≡◌, take}
use Rattle.conf_doc.specs.Shared.{pairs_of}
use Rattle.conf_doc.proofs.sorted.Sorted.sharing.Given as goal

abbrev pub invariant-loop-i : goal.invariant-loop-i
invariant-loop-i g l = pairs_of l.pairs.items ≡ take l.i l.self
