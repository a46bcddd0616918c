use Rattle.move_lists.specs.Ranking.{chosen_moves}
use Rattle.move_lists.specs.declared.ranking.Choice.TheVariants.{Early}
use Rattle.move_lists.proofs.PartLists.{many_reach}
use Rattle.move_lists.proofs.listing.list_far_extended.Goals as goal

pub early_reach-requires-clause-kinds : goal.early_reach-requires-clause-kinds
early_reach-requires-clause-kinds g c = c.requires.kinds

pub early_reach-requires-clause-asked : goal.early_reach-requires-clause-asked
early_reach-requires-clause-asked g c = c.requires.asked

pub early_reach-requires-clause-firsts : goal.early_reach-requires-clause-firsts
early_reach-requires-clause-firsts g c = c.requires.firsts

pub returns-in_err-early-clause-kinds : goal.returns-in_err-early-clause-kinds
returns-in_err-early-clause-kinds g c = c.early_reach.ensures.kinds

pub returns-in_err-early-clause-rules : goal.returns-in_err-early-clause-rules
returns-in_err-early-clause-rules g c = c.early_reach.ensures.rules

pub returns-clause-kinds : goal.returns-clause-kinds
returns-clause-kinds g c = c.early_reach.ensures.kinds

pub returns-clause-rules : goal.returns-clause-rules
returns-clause-rules g c = c.early_reach.ensures.rules

pub returns-clause-listed : goal.returns-clause-listed
returns-clause-listed g c =
    let q = c.args.question.now in
    let fs = c.args.firsts.now in
    c.list_early-listed.ensures q c.requires.firsts (many_reach q (chosen_moves Early fs) c.in_ok-early.early c.in_ok-early.ensures.reached)
