use Rattle.std.proofs.Common.{[], Result, Ok, Err, OnOk, subst}
use Rattle.move_lists.specs.Reaches.{AreNoted}
use Rattle.move_lists.proofs.listing.note_chosen.Goals as goal

on_ok : {T E P Q : Type 0} (r : Result T E) → (P → Q) → OnOk r P → OnOk r Q
on_ok (Ok x) f h = f h
on_ok (Err e) f h = h

pub returns : goal.returns
returns c =
    let old = c.args.known.now in
    let new = c.note_all-noted.new.self in
    on_ok c.note_all-noted.result
    (λ noted. subst (λ ms. AreNoted [] old new ms 0) c.in_ok-moves.ensures
    (subst (λ l. AreNoted l old new c.in_ok-moves.moves.items 0) c.new-none.ensures noted))
    c.note_all-noted.ensures
