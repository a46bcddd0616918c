use Rattle.std.proofs.Common.{refl, subst, arith}
use Rattle.move_lists.specs.Ranking.{IsReachFor}
use Rattle.move_lists.specs.declared.ranking.Choice.TheVariants.{Early}
use Rattle.move_lists.proofs.MoveChoices.{chosen_first}
use Rattle.move_lists.proofs.PartLists.{few_reach}
use Rattle.move_lists.proofs.listing.list_extended.Goals as goal

pub returns-in_err-early-clause-kinds : goal.returns-in_err-early-clause-kinds
returns-in_err-early-clause-kinds g c = c.requires.kinds

pub returns-in_err-early-clause-rules : goal.returns-in_err-early-clause-rules
returns-in_err-early-clause-rules g c = refl

pub reach_within-requires-clause-kinds : goal.reach_within-requires-clause-kinds
reach_within-requires-clause-kinds g c = c.requires.kinds

pub reach_within-requires-clause-asked : goal.reach_within-requires-clause-asked
reach_within-requires-clause-asked g c = c.requires.asked

pub reach_within-requires-clause-first : goal.reach_within-requires-clause-first
reach_within-requires-clause-first g c =
    chosen_first c.args.question.now c.args.firsts.now c.requires.firsts Early c.in_ok-early.early.items c.in_ok-early.ensures

pub returns-in_err-early-2-clause-kinds : goal.returns-in_err-early-2-clause-kinds
returns-in_err-early-2-clause-kinds g c = c.reach_within.ensures.kinds

pub returns-in_err-early-2-clause-rules : goal.returns-in_err-early-2-clause-rules
returns-in_err-early-2-clause-rules g c = c.reach_within.ensures.rules

pub list_early-listed-requires-clause-some : goal.list_early-listed-requires-clause-some
list_early-listed-requires-clause-some g c = c.requires.some

pub list_early-listed-requires-clause-few : goal.list_early-listed-requires-clause-few
list_early-listed-requires-clause-few g c = let few = c.requires.few in omega (arith, few)

pub returns-clause-kinds : goal.returns-clause-kinds
returns-clause-kinds g c = c.reach_within.ensures.kinds

pub returns-clause-rules : goal.returns-clause-rules
returns-clause-rules g c = c.reach_within.ensures.rules

pub returns-clause-listed : goal.returns-clause-listed
returns-clause-listed g c =
    let q = c.args.question.now in
    let k = c.args.extensions in
    let early = c.in_ok-early.early.items in
    let es = c.in_ok-early-2.early in
    let reach = c.in_ok-early-2.ensures in
    c.list_early-listed.ensures q c.requires.firsts
    (subst (λ l. IsReachFor q k l es) c.in_ok-early.ensures (few_reach q k c.requires.few early es reach.each reach.few reach.all))
