use Rattle.std.proofs.Common.{[], Result, Ok, Err, IfOk, subst}
use Rattle.move_lists.specs.Ranking.{chosen_moves}
use Rattle.move_lists.specs.Reaches.{AreNoted}
use Rattle.move_lists.specs.declared.ranking.Choice.TheVariants.{Other}
use Rattle.move_lists.proofs.PartLists.{early_listed}
use Rattle.move_lists.proofs.listing.list_early.Goals as goal

if_ok : {T E : Type 0} {P Q : T → Type 0} (r : Result T E) → ((x : T) → P x → Q x) → IfOk r P → IfOk r Q
if_ok (Ok x) f h = f x h
if_ok (Err e) f h = h

pub returns-in-Ok : goal.returns-in-Ok
returns-in-Ok c q are reach =
    let fs = c.args.firsts.now in
    let known = c.note_chosen.new.known in
    let noted = subst (λ l. AreNoted [] l known (chosen_moves Other fs) 0) c.new-known.ensures c.in-Ok.ensures in
    if_ok c.order_reached-listed.result
    (λ ms has. early_listed q fs are c.args.extensions c.requires.some c.requires.few c.args.early.now known ms.items reach noted has) c.order_reached-listed.ensures

pub returns-in-Err : goal.returns-in-Err
returns-in-Err c q are reach = tt
