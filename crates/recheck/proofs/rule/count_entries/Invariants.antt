use Rattle.std.proofs.Common.{◌≡◌, min, take}
use Rattle.recheck.specs.Counts.{number_of}
use Rattle.recheck.specs.Entries.{greatest}
use Rattle.recheck.proofs.rule.count_entries.Given as goal

abbrev pub invariant-loop-i : goal.invariant-loop-i
invariant-loop-i l = l.count ≡ min (number_of (take l.i l.config)) greatest
