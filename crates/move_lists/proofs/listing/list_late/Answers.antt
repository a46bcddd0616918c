use Rattle.std.proofs.Common.{All, refl, subst}
use Rattle.move_lists.specs.Ranking.{chosen_moves}
use Rattle.move_lists.specs.Reaches.{HoldsAll, IsLedTo}
use Rattle.move_lists.specs.declared.ranking.Choice.TheVariants.{Early, Late}
use Rattle.move_lists.proofs.Chains.{early_closed}
use Rattle.move_lists.proofs.MoveChoices.{chosen_first}
use Rattle.move_lists.proofs.listing.list_late.Goals as goal

pub returns-in_err-late-clause-kinds : goal.returns-in_err-late-clause-kinds
returns-in_err-late-clause-kinds g c = c.requires.kinds

pub returns-in_err-late-clause-rules : goal.returns-in_err-late-clause-rules
returns-in_err-late-clause-rules g c = refl

pub reach_from-requires-clause-kinds : goal.reach_from-requires-clause-kinds
reach_from-requires-clause-kinds g c = c.requires.kinds

pub reach_from-requires-clause-asked : goal.reach_from-requires-clause-asked
reach_from-requires-clause-asked g c = c.requires.asked

pub reach_from-requires-clause-first : goal.reach_from-requires-clause-first
reach_from-requires-clause-first g c =
    chosen_first c.args.question.now c.args.firsts.now c.requires.firsts Late c.in_ok-late.late.items c.in_ok-late.ensures

pub reach_from-requires-clause-closed : goal.reach_from-requires-clause-closed
reach_from-requires-clause-closed g c = early_closed c.args.question.now (chosen_moves Early c.args.firsts.now) c.args.known.now c.requires.known

pub returns-in_err-late-2-clause-kinds : goal.returns-in_err-late-2-clause-kinds
returns-in_err-late-2-clause-kinds g c = c.reach_from.ensures.kinds

pub returns-in_err-late-2-clause-rules : goal.returns-in_err-late-2-clause-rules
returns-in_err-late-2-clause-rules g c = c.reach_from.ensures.rules

pub returns-clause-kinds : goal.returns-clause-kinds
returns-clause-kinds g c = c.reach_from.ensures.kinds

pub returns-clause-rules : goal.returns-clause-rules
returns-clause-rules g c = c.reach_from.ensures.rules

pub returns-clause-listed : goal.returns-clause-listed
returns-clause-listed g c =
    let q = c.args.question.now in
    let late = c.in_ok-late-2.late in
    let reach = c.in_ok-late-2.ensures in
    c.list_new_late-listed.ensures q c.requires.firsts c.requires.known
    (record {
      each = subst (λ l. All (IsLedTo q l) late) c.in_ok-late.ensures reach.each;
      all = subst (λ l. HoldsAll q c.args.known.now l late) c.in_ok-late.ensures reach.all;
    })
