use Rattle.std.proofs.Common.{◌+◌, ap, ◌∙◌, arith}
use Rattle.conf_doc.specs.Pairs.{find}
use Rattle.move_gen.proofs.MoveNames.{key_name}
use Rattle.move_gen.proofs.PlaceParts.{found_there}
use Rattle.move_gen.proofs.Walks.{letters_at, walk_begins, walk_ends, walk_more, walk_passes, walk_stops}
use Rattle.move_gen.proofs.entries.give_in_table.Goals as goal

pub loop-i-init : goal.loop-i-init
loop-i-init g c =
    let Is = g.M.EntryMoves.is_given c.args.moves.now c.args.name.now in let out = c.args.out.now.items in
    walk_passes Is c.args.table.now 0 c.pass_settled-i.result.0 out out c.pass_settled-i.ensures.from c.pass_settled-i.ensures.none (walk_begins Is c.args.table.now out)

pub give-requires-clause-key : goal.give-requires-clause-key
give-requires-clause-key g c = letters_at c.args.table.now c.loop-i.i c.name_at-key.result.now c.len.ensures.formed.shaped.named c.name_at-key.ensures

pub give-requires-clause-there : goal.give-requires-clause-there
give-requires-clause-there g c =
    found_there (g.M.EntryMoves.other c.args.moves.now) c.args.name.now c.name_at-key.result.now _ _ c.look_beside-next.ensures
    (c.table-other.ensures.table ∙ ap (find c.args.name.now) c.beside.ensures)

pub returns-in_err-give : goal.returns-in_err-give
returns-in_err-give g c =
    walk_stops (g.M.EntryMoves.is_given c.args.moves.now c.args.name.now) c.args.table.now key_name
    (λ k e x is. (g.met.M.EntryMoves.for_entries c.args.moves.now c.args.name.now k e x is).1) c.len.ensures.formed.shaped.rising
    c.from_residual.result c.loop-i.i c.name_at-key.result.now c.part_at.result.now c.args.out.now.items c.loop-i.out.items c.give.new.out.items
    c.name_at-key.ensures c.part_at.ensures.part c.from_residual.ensures.0 c.loop-i.invariant c.in_err-give.ensures

pub loop-i-preserved : goal.loop-i-preserved
loop-i-preserved g c =
    let Is = g.M.EntryMoves.is_given c.args.moves.now c.args.name.now in
    walk_passes Is c.args.table.now (c.loop-i.i + 1) c.pass_settled.result.0 c.args.out.now.items c.give.new.out.items
    c.pass_settled.ensures.from c.pass_settled.ensures.none
    (walk_more Is c.args.table.now key_name
    (λ k e x is. (g.met.M.EntryMoves.for_entries c.args.moves.now c.args.name.now k e x is).1) c.len.ensures.formed.shaped.rising
    c.loop-i.i c.name_at-key.result.now c.part_at.result.now c.args.out.now.items c.loop-i.out.items c.give.new.out.items
    c.name_at-key.ensures c.part_at.ensures.part c.loop-i.invariant c.in_ok-give.ensures)

pub returns : goal.returns
returns g c =
    let end = c.loop-i-test.false in let all = c.len.ensures.len in
    walk_ends (g.M.EntryMoves.is_given c.args.moves.now c.args.name.now) c.args.table.now c.len.ensures.formed.shaped.rising
    c.loop-i.i c.args.out.now.items c.loop-i.out.items (omega (arith, end, all)) c.loop-i.invariant
