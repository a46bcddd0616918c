use Rattle.std.proofs.Common.{sym, subst, ◌∙◌}
use Rattle.move_core.specs.Contexts.{rulebook}
use Rattle.move_core.specs.Listed.{AreListed}
use Rattle.move_lists.specs.Firsts.{AreFirstsOf}
use Rattle.move_lists.specs.declared.asking.Question.{Question}
use Rattle.move_lists.proofs.PartLists.{whole_listed}
use Rattle.move_lists.proofs.listing.listed.Goals as goal

pub offered_moves-requires-clause-kinds : goal.offered_moves-requires-clause-kinds
offered_moves-requires-clause-kinds g c = c.requires.kinds

pub offered_moves-requires-clause-named : goal.offered_moves-requires-clause-named
offered_moves-requires-clause-named g c = c.requires.named

pub offered_moves-requires-clause-cur : goal.offered_moves-requires-clause-cur
offered_moves-requires-clause-cur g c = c.requires.cur

pub offered_moves-requires-clause-goal : goal.offered_moves-requires-clause-goal
offered_moves-requires-clause-goal g c = c.requires.goal

pub returns-in_err-firsts-clause-kinds : goal.returns-in_err-firsts-clause-kinds
returns-in_err-firsts-clause-kinds g c = c.offered_moves.ensures.kinds

pub returns-in_err-firsts-clause-rules : goal.returns-in_err-firsts-clause-rules
returns-in_err-firsts-clause-rules g c = c.offered_moves.ensures.rules

pub add_parts-added-requires-clause-kinds : goal.add_parts-added-requires-clause-kinds
add_parts-added-requires-clause-kinds g c = c.offered_moves.ensures.kinds

pub add_parts-added-requires-clause-asked : goal.add_parts-added-requires-clause-asked
add_parts-added-requires-clause-asked g c = record { named = c.requires.named; cur = c.requires.cur; goal = c.requires.goal }

pub add_parts-added-requires-clause-firsts : goal.add_parts-added-requires-clause-firsts
add_parts-added-requires-clause-firsts g c =
    subst (AreFirstsOf (rulebook c.args.ctx.now) c.args.start.now c.args.cur.now c.args.goal.now) (sym c.items.ensures) c.in_ok-firsts.ensures.firsts

pub add_parts-added-requires-clause-none : goal.add_parts-added-requires-clause-none
add_parts-added-requires-clause-none g c = c.new-moves.ensures.items

pub returns-in-Ok-clause-kinds : goal.returns-in-Ok-clause-kinds
returns-in-Ok-clause-kinds g c = c.add_parts-added.ensures.kinds

pub returns-in-Ok-clause-rules : goal.returns-in-Ok-clause-rules
returns-in-Ok-clause-rules g c = c.add_parts-added.ensures.rules ∙ c.offered_moves.ensures.rules

pub returns-in-Ok-clause-listed : goal.returns-in-Ok-clause-listed
returns-in-Ok-clause-listed g c =
    let q : Question = record { ctx = c.args.ctx; start = c.args.start; cur = c.args.cur; goal = c.args.goal } in
    subst (AreListed (rulebook c.args.ctx.now) c.args.start.now c.args.cur.now c.args.goal.now) (sym c.from_vec.ensures)
    (whole_listed q c.add_parts-added.new.moves.items c.in-Ok.ensures.added)

pub returns-in-Err-clause-kinds : goal.returns-in-Err-clause-kinds
returns-in-Err-clause-kinds g c = c.add_parts-added.ensures.kinds

pub returns-in-Err-clause-rules : goal.returns-in-Err-clause-rules
returns-in-Err-clause-rules g c = c.add_parts-added.ensures.rules ∙ c.offered_moves.ensures.rules

pub returns-in-Err-clause-listed : goal.returns-in-Err-clause-listed
returns-in-Err-clause-listed g c = tt
