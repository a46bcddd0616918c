use Rattle.move_core.specs.Contexts.{rulebook}
use Rattle.move_core.specs.Generated.{IsFromItems, IsGenerated}
use Rattle.move_gen.proofs.GeneratorKinds.{on_ok, fifth_kind}
use Rattle.move_gen.proofs.items.ItemGenMoveGen.moves.Goals as goal

pub returns-clause-ok : goal.returns-clause-ok
returns-clause-ok c =
    let cur = c.args.cur.now in let goal = c.args.goal.now in let book = rulebook c.args._ctx.now in
    on_ok (IsFromItems cur goal) (IsGenerated book cur goal 5) c.give_items.result c.args.out.now.items c.give_items.new.out.items (fifth_kind book cur goal) c.give_items.ensures
