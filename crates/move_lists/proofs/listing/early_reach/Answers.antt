use Rattle.std.proofs.Common.{Result, Ok, Err, IfOk, All, refl, sym, subst}
use Rattle.move_lists.specs.Ranking.{chosen_moves}
use Rattle.move_lists.specs.Reaches.{HoldsAll, IsClosed, IsLedTo}
use Rattle.move_lists.specs.declared.ranking.Choice.TheVariants.{Early}
use Rattle.move_lists.proofs.Chains.{none_closed}
use Rattle.move_lists.proofs.MoveChoices.{chosen_first}
use Rattle.move_lists.proofs.listing.early_reach.Goals as goal

if_both : {T E : Type 0} {P Q R : T → Type 0} (r : Result T E) → ((x : T) → P x → Q x → R x) → IfOk r P → IfOk r Q → IfOk r R
if_both (Ok x) f h k = f x h k
if_both (Err e) f h k = h

pub returns-in_err-early-clause-kinds : goal.returns-in_err-early-clause-kinds
returns-in_err-early-clause-kinds g c = c.requires.kinds

pub returns-in_err-early-clause-rules : goal.returns-in_err-early-clause-rules
returns-in_err-early-clause-rules g c = refl

pub reach_from-reached-requires-clause-kinds : goal.reach_from-reached-requires-clause-kinds
reach_from-reached-requires-clause-kinds g c = c.requires.kinds

pub reach_from-reached-requires-clause-asked : goal.reach_from-reached-requires-clause-asked
reach_from-reached-requires-clause-asked g c = c.requires.asked

pub reach_from-reached-requires-clause-first : goal.reach_from-reached-requires-clause-first
reach_from-reached-requires-clause-first g c =
    chosen_first c.args.question.now c.args.firsts.now c.requires.firsts Early c.in_ok-early.early.items c.in_ok-early.ensures

pub reach_from-reached-requires-clause-closed : goal.reach_from-reached-requires-clause-closed
reach_from-reached-requires-clause-closed g c = subst (IsClosed c.args.question.now) (sym c.new-none.ensures) (none_closed c.args.question.now)

pub returns-clause-kinds : goal.returns-clause-kinds
returns-clause-kinds g c = c.reach_from-reached.ensures.kinds

pub returns-clause-rules : goal.returns-clause-rules
returns-clause-rules g c = c.reach_from-reached.ensures.rules

pub returns-clause-reached : goal.returns-clause-reached
returns-clause-reached g c =
    let q = c.args.question.now in
    let ms = chosen_moves Early c.args.firsts.now in
    if_both c.reach_from-reached.result
    (λ es each all. record {
      each = subst (λ l. All (IsLedTo q l) es) c.in_ok-early.ensures each;
      all = subst (λ l. HoldsAll q l ms es) c.new-none.ensures (subst (λ l. HoldsAll q c.new-none.result l es) c.in_ok-early.ensures all);
    })
    c.reach_from-reached.ensures.each c.reach_from-reached.ensures.all
