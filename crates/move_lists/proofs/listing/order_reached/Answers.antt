use Rattle.std.proofs.Common.{Result, Ok, Err, IfOk}
use Rattle.move_lists.proofs.listing.order_reached.Goals as goal

if_ok : {T E : Type 0} {P Q : T → Type 0} (r : Result T E) → ((x : T) → P x → Q x) → IfOk r P → IfOk r Q
if_ok (Ok x) f h = f x h
if_ok (Err e) f h = h

pub returns : goal.returns
returns c =
    if_ok c.in_order.result
    (λ ms is. record { ranked = c.in_ok-ranked.ranked.items; added = c.in_ok-ranked.ensures.added; once = c.in_ok-ranked.ensures.once; order = is })
    c.in_order.ensures
