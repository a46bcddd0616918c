use Rattle.std.proofs.Common.{subst}
use Rattle.ref_index.specs.PlaceMaps.{PutsAll, PutsSome, TakesAll}
use Rattle.ref_index.proofs.Moves.{map_moves, map_stays}
use Rattle.ref_index.proofs.indexes.move_named.Goals as goal

pub returns-in-Ok-clause-ok : goal.returns-in-Ok-clause-ok
returns-in-Ok-clause-ok c =
    let old = c.args.places.now in
    let mid = c.put_all.new.places in
    let new = c.take_all.new.places in
    map_moves c.args.models.now c.args.config.now c.args.next.now old mid new c.in_ok-changes.changes.come.items c.requires.map c.in_ok-changes.ensures.come
    c.in_ok-changes.changes.gone.items c.in_ok-changes.ensures.gone
    (subst (λ ls. PutsAll ls old mid) c.as_slice.ensures.value c.in-Ok.ensures.ok)
    (subst (λ ls. TakesAll ls mid new) c.as_slice-in-Ok.ensures.value c.take_all.ensures)

pub returns-clause-err : goal.returns-clause-err
returns-clause-err c =
    let old = c.args.places.now in
    let mid = c.put_all.new.places in
    let new = c.take_all-in-Err.new.places in
    map_stays c.args.models.now c.args.config.now c.args.next.now old mid new c.in_ok-changes.changes.come.items c.requires.map c.in_ok-changes.ensures.come
    (subst (λ ls. PutsSome ls old mid) c.as_slice.ensures.value c.in-Err.ensures.err)
    (subst (λ ls. TakesAll ls mid new) c.as_slice-in-Err.ensures.value c.take_all-in-Err.ensures)
