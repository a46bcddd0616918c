use Rattle.std.proofs.Common.{arith}
use Rattle.plan_check.proofs.PlaceNames.{through, upper_three, upper_two}
use Rattle.plan_check.proofs.follows.is_below.Goals as goal

pub returns-in-2 : goal.returns-in-2
returns-in-2 c =
    through c.is_table_at.result c.is_table_at.ensures
    (upper_two c.args.place.now c.args.above.now c.name_at.result.now (omega (arith, c.len.ensures.len)) c.name_at.ensures.name)

pub returns-in-3 : goal.returns-in-3
returns-in-3 c =
    through c.is_entry_at.result c.is_entry_at.ensures
    (upper_three c.args.place.now c.args.above.now c.name_at-in-3.result.now c.name_at-in-3-2.result.now (omega (arith, c.len.ensures.len)) c.name_at-in-3.ensures.name c.name_at-in-3-2.ensures.name)
