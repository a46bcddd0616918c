use Rattle.std.proofs.Common.{Result, Ok, Err, IfOk, subst}
use Rattle.move_lists.specs.Ranking.{AreInOrder}
use Rattle.move_lists.proofs.PartLists.{alone_listed}
use Rattle.move_lists.proofs.listing.list_alone.Goals as goal

if_ok : {T E : Type 0} {P Q : T → Type 0} (r : Result T E) → ((x : T) → P x → Q x) → IfOk r P → IfOk r Q
if_ok (Ok x) f h = f x h
if_ok (Err e) f h = h

pub returns : goal.returns
returns c q are =
    let ranked = c.in_ok-ranked.ranked.items in
    if_ok c.in_order-listed.result
    (λ ms is. alone_listed q c.args.firsts.now are ranked ms.items c.in_ok-ranked.ensures (subst (λ l. AreInOrder l ranked ms.items) c.new-none.ensures is))
    c.in_order-listed.ensures
