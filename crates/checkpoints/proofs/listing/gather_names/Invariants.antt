use Rattle.std.proofs.Common.{◌≡◌, ◌≤◌, length, drop}
use Rattle.checkpoints.specs.Reads.{names_in}
use Rattle.checkpoints.proofs.listing.gather_names.Given as goal

-- the names of the checkpoints in the files from an index on
abbrev pub invariant-loop-i : goal.invariant-loop-i
invariant-loop-i l = (l.i ≤ length l.files) × (l.names.keys ≡ names_in (drop l.i l.files))

abbrev pub decreases-loop-i : goal.decreases-loop-i
decreases-loop-i l = l.i
