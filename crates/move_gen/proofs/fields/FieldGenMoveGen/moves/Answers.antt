use Rattle.move_core.specs.Contexts.{rulebook}
use Rattle.move_core.specs.Generated.{IsFromFields, IsGenerated}
use Rattle.move_gen.proofs.GeneratorKinds.{on_ok, third_kind}
use Rattle.move_gen.proofs.fields.FieldGenMoveGen.moves.Goals as goal

pub returns-clause-ok : goal.returns-clause-ok
returns-clause-ok c =
    let cur = c.args.cur.now in let goal = c.args.goal.now in let book = rulebook c.args._ctx.now in
    on_ok (IsFromFields cur goal) (IsGenerated book cur goal 3) c.give_changes.result c.args.out.now.items c.give_changes.new.out.items (third_kind book cur goal) c.give_changes.ensures
