use Rattle.std.proofs.Common.{◌<◌, ℕ}
use Rattle.recheck.specs.Changes.{IsPartUnwanted}
use Rattle.recheck.proofs.alone.is_some_part_wanted.Given as goal

abbrev pub invariant-loop-part : goal.invariant-loop-part
invariant-loop-part l = (n : ℕ) → n < l.part → IsPartUnwanted l.index.models l.index.config l.table l.shape l.key n
