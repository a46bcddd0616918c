use Rattle.std.proofs.Common.{OnOk, Result, Ok, Err, IsTrue, arith}
use Rattle.std.proofs.lemmas.Option.{slice_get_within}
use Rattle.move_core.specs.Extensions.{IsUpper}
use Rattle.move_lists.proofs.ReachableMoves.{above_known, depth_at, spread_noted}
use Rattle.move_lists.proofs.reaches.Reach.spread.Goals as goal

on_ok : {T E P Q : Type 0} (r : Result T E) → (P → Q) → OnOk r P → OnOk r Q
on_ok (Ok x) f h = f h
on_ok (Err e) f h = h

pub overflow_add-depth : goal.overflow_add-depth
overflow_add-depth g c =
    let same = depth_at c.args.self.now c.args.i _ _ c.at-depth.ensures c.requires.ready.at in
    let low = c.requires.ready.shallow in
    let small = c.requires.ready.small in
    omega (arith, same, low, small)

pub returns-clause-spread : goal.returns-clause-spread
returns-clause-spread g c =
    let q = c.args.question.now in
    on_ok c.note_all.result
    (spread_noted q c.args.beside.now c.args.self.now c.note_all.new.self c.args.i c.at-depth.result.0.now c.at-depth.result.1
    c.in_ok-moves.moves.items (λ m. IsTrue c.shares_above-is_above_known.result × IsUpper q.goal.now c.at-depth.result.0.now m)
    c.at-depth.ensures c.in_ok-moves.ensures.each c.in_ok-moves.ensures.all
    (λ m k. above_known q c.args.beside.now c.args.self.now c.args.i c.at-depth.result.0.now c.at-depth.result.1 c.at-depth.ensures
    c.requires.before (c.shares_above-is_above_known.ensures k.0) m k.1))
    c.note_all.ensures

pub shares_above-is_above_known-requires : goal.shares_above-is_above_known-requires
shares_above-is_above_known-requires g c = slice_get_within c.args.self.now c.args.i _ c.requires.ready.at
