use Rattle.move_core.proofs.Listing.{pair-other}
use Rattle.move_core.proofs.items.pair.Goals as goal

pub returns-then-values-ne2 : goal.returns-then-values-ne2
returns-then-values-ne2 c = pair-other c.args.values.now c.if-values-ne2.true
