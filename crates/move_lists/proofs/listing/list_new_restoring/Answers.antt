use Rattle.std.proofs.Common.{Result, Ok, Err, IfOk}
use Rattle.move_lists.proofs.PartLists.{restoring_listed}
use Rattle.move_lists.proofs.listing.list_new_restoring.Goals as goal

if_ok : {T E : Type 0} {P Q : T → Type 0} (r : Result T E) → ((x : T) → P x → Q x) → IfOk r P → IfOk r Q
if_ok (Ok x) f h = f x h
if_ok (Err e) f h = h

pub returns : goal.returns
returns c q are reach =
    if_ok c.in_order.result
    (λ ms is. restoring_listed q c.args.firsts.now are c.args.known.now c.note_chosen.new.known c.in_ok-ranked.ranked.items ms.items reach c.in_ok-note_chosen.ensures
    c.in_ok-ranked.ensures is) c.in_order.ensures
