use Rattle.std.proofs.Common.{◌≡◌, ◌++◌}
use Rattle.scopes.proofs.listing.list_names.Given as goal

-- these are listed, and those are left
abbrev pub invariant-loop-name : goal.invariant-loop-name
invariant-loop-name l = l.fn.names.keys ≡ l.all ++ l.name-iterator
