use Rattle.patch_core.specs.declared.errors.FailWhy.TheVariants.{NoParent}
use Rattle.patch_core.proofs.Nodes.{below_item}
use Rattle.patch_core.proofs.Openings.{gap_of_item}
use Rattle.patch_core.proofs.gaps.open_item.Goals as goal

pub returns-clause-child : goal.returns-clause-child
returns-clause-child c = below_item NoParent c.args.token.now c.args.items c.in-Ok.i _ c.in-Ok.ensures.named.0 c.replace-child.ensures.taken

pub returns-clause-gap : goal.returns-clause-gap
returns-clause-gap c = gap_of_item c.args.token.now c.args.items c.replace-child.new.self c.in-Ok.i _ _ c.in-Ok.ensures.named.0 c.in-Ok.ensures.named.1 c.replace-child.ensures.put c.replace-child.ensures.taken
