use Rattle.std.proofs.lemmas.Result.{on_ok_weaker}
use Rattle.move_extend.specs.Mentions.{GivesOfEntry}
use Rattle.move_extend.proofs.DistinctLists.{finds_behind}
use Rattle.move_extend.proofs.referrers.find_in_entry.Goals as goal

pub returns : goal.returns
returns c =
    let Gives = GivesOfEntry c.args.change.now c.args.gone.now.table.now c.args.table.now c.args.key.now in
    on_ok_weaker c.append_moves.result
    (finds_behind Gives c.args.found.now.items c.in_ok-removals.removals c.append_moves.new.out.items c.requires.fresh c.in_ok-removals.ensures)
    c.append_moves.ensures.ok
