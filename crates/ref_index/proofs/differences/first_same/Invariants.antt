use Rattle.std.proofs.Common.{take}
use Rattle.ref_index.specs.EntryNames.{IsSameListed}
use Rattle.ref_index.proofs.differences.first_same.Given as goal

abbrev pub invariant-loop-i : goal.invariant-loop-i
invariant-loop-i l = ¬ IsSameListed (take l.i l.listed) l.at
