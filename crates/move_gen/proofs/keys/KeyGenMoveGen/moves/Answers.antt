use Rattle.move_core.specs.Contexts.{rulebook}
use Rattle.move_core.specs.Generated.{IsFromKeys, IsGenerated}
use Rattle.move_gen.proofs.GeneratorKinds.{on_ok, second_kind}
use Rattle.move_gen.proofs.keys.KeyGenMoveGen.moves.Goals as goal

pub returns-clause-ok : goal.returns-clause-ok
returns-clause-ok c =
    let cur = c.args.cur.now in let goal = c.args.goal.now in let book = rulebook c.args._ctx.now in
    on_ok (IsFromKeys cur goal) (IsGenerated book cur goal 2) c.give_keys.result c.args.out.now.items c.give_keys.new.out.items (second_kind book cur goal) c.give_keys.ensures
