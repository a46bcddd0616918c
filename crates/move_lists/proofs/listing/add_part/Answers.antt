use Rattle.move_lists.proofs.listing.add_part.Goals as goal

pub list_part-requires-clause-kinds : goal.list_part-requires-clause-kinds
list_part-requires-clause-kinds g c = c.requires.kinds

pub list_part-requires-clause-asked : goal.list_part-requires-clause-asked
list_part-requires-clause-asked g c = c.requires.asked

pub list_part-requires-clause-firsts : goal.list_part-requires-clause-firsts
list_part-requires-clause-firsts g c = c.requires.firsts

pub list_part-requires-clause-low : goal.list_part-requires-clause-low
list_part-requires-clause-low g c = c.requires.low

pub list_part-requires-clause-high : goal.list_part-requires-clause-high
list_part-requires-clause-high g c = c.requires.high

pub returns-in_err-more-clause-kinds : goal.returns-in_err-more-clause-kinds
returns-in_err-more-clause-kinds g c = c.list_part.ensures.kinds

pub returns-in_err-more-clause-rules : goal.returns-in_err-more-clause-rules
returns-in_err-more-clause-rules g c = c.list_part.ensures.rules

pub returns-in_err-added-clause-kinds : goal.returns-in_err-added-clause-kinds
returns-in_err-added-clause-kinds g c = c.list_part.ensures.kinds

pub returns-in_err-added-clause-rules : goal.returns-in_err-added-clause-rules
returns-in_err-added-clause-rules g c = c.list_part.ensures.rules

pub returns-clause-kinds : goal.returns-clause-kinds
returns-clause-kinds g c = c.list_part.ensures.kinds

pub returns-clause-rules : goal.returns-clause-rules
returns-clause-rules g c = c.list_part.ensures.rules

pub returns-clause-added : goal.returns-clause-added
returns-clause-added g c = (c.in_ok-more.more.items, c.in_ok-more.ensures.listed, c.in_ok-added.ensures.items)
