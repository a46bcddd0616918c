use Rattle.std.proofs.Common.{◌∙◌}
use Rattle.move_lists.proofs.listing.list_others.Goals as goal

pub early_reach-requires-clause-kinds : goal.early_reach-requires-clause-kinds
early_reach-requires-clause-kinds g c = c.requires.kinds

pub early_reach-requires-clause-asked : goal.early_reach-requires-clause-asked
early_reach-requires-clause-asked g c = c.requires.asked

pub early_reach-requires-clause-firsts : goal.early_reach-requires-clause-firsts
early_reach-requires-clause-firsts g c = c.requires.firsts

pub returns-in_err-known-clause-kinds : goal.returns-in_err-known-clause-kinds
returns-in_err-known-clause-kinds g c = c.early_reach.ensures.kinds

pub returns-in_err-known-clause-rules : goal.returns-in_err-known-clause-rules
returns-in_err-known-clause-rules g c = c.early_reach.ensures.rules

pub list_late-listed-requires-clause-kinds : goal.list_late-listed-requires-clause-kinds
list_late-listed-requires-clause-kinds g c = c.early_reach.ensures.kinds

pub list_late-listed-requires-clause-asked : goal.list_late-listed-requires-clause-asked
list_late-listed-requires-clause-asked g c = c.requires.asked

pub list_late-listed-requires-clause-firsts : goal.list_late-listed-requires-clause-firsts
list_late-listed-requires-clause-firsts g c = c.requires.firsts

pub list_late-listed-requires-clause-known : goal.list_late-listed-requires-clause-known
list_late-listed-requires-clause-known g c = c.in_ok-known.ensures.reached

pub returns-clause-kinds : goal.returns-clause-kinds
returns-clause-kinds g c = c.list_late-listed.ensures.kinds

pub returns-clause-rules : goal.returns-clause-rules
returns-clause-rules g c = c.list_late-listed.ensures.rules ∙ c.early_reach.ensures.rules

pub returns-clause-listed : goal.returns-clause-listed
returns-clause-listed g c = c.list_late-listed.ensures.listed
