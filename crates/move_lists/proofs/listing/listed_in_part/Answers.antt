use Rattle.std.proofs.Common.{sym, subst}
use Rattle.move_core.specs.Contexts.{rulebook}
use Rattle.move_lists.specs.Firsts.{AreFirstsOf}
use Rattle.move_lists.proofs.listing.listed_in_part.Goals as goal

pub list_part-requires-clause-kinds : goal.list_part-requires-clause-kinds
list_part-requires-clause-kinds g c = c.requires.kinds

pub list_part-requires-clause-asked : goal.list_part-requires-clause-asked
list_part-requires-clause-asked g c = record { named = c.requires.named; cur = c.requires.cur; goal = c.requires.goal }

pub list_part-requires-clause-firsts : goal.list_part-requires-clause-firsts
list_part-requires-clause-firsts g c =
    subst (AreFirstsOf (rulebook c.args.ctx.now) c.args.start.now c.args.cur.now c.args.goal.now) (sym c.items.ensures) c.requires.firsts

pub list_part-requires-clause-low : goal.list_part-requires-clause-low
list_part-requires-clause-low g c = c.requires.low

pub list_part-requires-clause-high : goal.list_part-requires-clause-high
list_part-requires-clause-high g c = c.requires.high

pub returns-clause-kinds : goal.returns-clause-kinds
returns-clause-kinds g c = c.list_part.ensures.kinds

pub returns-clause-rules : goal.returns-clause-rules
returns-clause-rules g c = c.list_part.ensures.rules

pub returns-clause-listed : goal.returns-clause-listed
returns-clause-listed g c = c.list_part.ensures.listed
