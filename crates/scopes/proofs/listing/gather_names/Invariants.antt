use Rattle.std.proofs.Common.{◌≡◌, ◌≤◌, length, drop}
use Rattle.scopes.specs.Listings.{plain_names}
use Rattle.scopes.proofs.listing.gather_names.Given as goal

-- the plain names of the files from an index on
abbrev pub invariant-loop-i : goal.invariant-loop-i
invariant-loop-i l = (l.i ≤ length l.files) × (l.names.keys ≡ plain_names l.scope (drop l.i l.files))

abbrev pub decreases-loop-i : goal.decreases-loop-i
decreases-loop-i l = l.i
