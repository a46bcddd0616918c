use Rattle.std.proofs.Common.{drop}
use Rattle.move_core.proofs.Listing.{Walk}
use Rattle.move_core.proofs.json_parts.items.Given as goal

abbrev pub invariant-loop-value : goal.invariant-loop-value
invariant-loop-value g l = Walk g.T.Item.reads l.values (drop l.value-index l.values) l.all
