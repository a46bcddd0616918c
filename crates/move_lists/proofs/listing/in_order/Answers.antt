use Rattle.std.proofs.Common.{Result, Ok, Err, IfOk}
use Rattle.move_lists.proofs.FirstChains.{all_sorted}
use Rattle.move_lists.proofs.listing.in_order.Goals as goal

if_ok : {T E : Type 0} {P Q : T → Type 0} (r : Result T E) → ((x : T) → P x → Q x) → IfOk r P → IfOk r Q
if_ok (Ok x) f h = f x h
if_ok (Err e) f h = h

pub first_of_each-requires : goal.first_of_each-requires
first_of_each-requires c = all_sorted c.sort.new.self.items c.in-Ok.ensures.sorted

pub returns-in-Ok : goal.returns-in-Ok
returns-in-Ok c = if_ok c.first_of_each.result (λ ms has. (c.sort.new.self.items, c.sort.ensures.permutation, has)) c.first_of_each.ensures
