use Rattle.patch_core.proofs.Nodes.{below_item}
use Rattle.patch_core.proofs.walks.item_below.Goals as goal

pub returns : goal.returns
returns c = below_item c.args.missing c.args.token.now c.args.items.now c.in_ok-i.i _ c.in_ok-i.ensures.named.0 c.at.ensures
