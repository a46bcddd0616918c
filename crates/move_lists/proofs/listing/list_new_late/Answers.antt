use Rattle.std.proofs.Common.{Result, Ok, Err, IfOk}
use Rattle.move_lists.proofs.PartLists.{late_listed}
use Rattle.move_lists.proofs.listing.list_new_late.Goals as goal

if_ok : {T E : Type 0} {P Q : T → Type 0} (r : Result T E) → ((x : T) → P x → Q x) → IfOk r P → IfOk r Q
if_ok (Ok x) f h = f x h
if_ok (Err e) f h = h

pub returns : goal.returns
returns c q are reach late =
    if_ok c.order_reached.result
    (λ ms has. late_listed q c.args.firsts.now are c.args.known.now c.args.late.now c.note_chosen.new.known c.note_chosen-2.new.known ms.items reach late
    c.in_ok-note_chosen.ensures c.in_ok-note_chosen-2.ensures has) c.order_reached.ensures
