use Rattle.move_core.specs.Contexts.{rulebook}
use Rattle.move_core.specs.Generated.{IsFromSeeds, IsGenerated}
use Rattle.move_gen.proofs.GeneratorKinds.{fourth_kind, on_ok}
use Rattle.move_gen.proofs.seeds.SeedGenMoveGen.moves.Goals as goal

pub returns-clause-ok : goal.returns-clause-ok
returns-clause-ok c =
    let cur = c.args.cur.now in let goal = c.args.goal.now in let book = rulebook c.args.ctx.now in
    on_ok (IsFromSeeds book cur goal) (IsGenerated book cur goal 4) c.give_seeds.result c.args.out.now.items c.give_seeds.new.out.items (fourth_kind book cur goal) c.give_seeds.ensures
