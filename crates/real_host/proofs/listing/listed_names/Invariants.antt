-- The items so far are entries, and the names are theirs.
use Rattle.std.proofs.Common.{◌≡◌}
use Rattle.std.specs.Prelude.{All}
use Rattle.real_host.specs.Listings.{item_names, IsEntry}
use Rattle.real_host.proofs.listing.listed_names.Given as goal

abbrev pub invariant-loop-item : goal.invariant-loop-item
invariant-loop-item g l = record {
  entries : All IsEntry l.yielded;
  names : l.names.items ≡ item_names l.yielded;
}
