use Rattle.move_lists.proofs.listing.list_restoring.Goals as goal

pub early_reach-requires-clause-kinds : goal.early_reach-requires-clause-kinds
early_reach-requires-clause-kinds g c = c.requires.kinds

pub early_reach-requires-clause-asked : goal.early_reach-requires-clause-asked
early_reach-requires-clause-asked g c = c.requires.asked

pub early_reach-requires-clause-firsts : goal.early_reach-requires-clause-firsts
early_reach-requires-clause-firsts g c = c.requires.firsts

pub returns-in_err-known-clause-kinds : goal.returns-in_err-known-clause-kinds
returns-in_err-known-clause-kinds g c = c.early_reach.ensures.kinds

pub returns-in_err-known-clause-rules : goal.returns-in_err-known-clause-rules
returns-in_err-known-clause-rules g c = c.early_reach.ensures.rules

pub returns-clause-kinds : goal.returns-clause-kinds
returns-clause-kinds g c = c.early_reach.ensures.kinds

pub returns-clause-rules : goal.returns-clause-rules
returns-clause-rules g c = c.early_reach.ensures.rules

pub returns-clause-listed : goal.returns-clause-listed
returns-clause-listed g c = c.list_new_restoring-listed.ensures c.args.question.now c.requires.firsts c.in_ok-known.ensures.reached
