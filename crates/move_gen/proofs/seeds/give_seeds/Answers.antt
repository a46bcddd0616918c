use Rattle.move_core.specs.Contexts.{rulebook}
use Rattle.move_core.specs.Generated.{IsFromSeeds, IsSeed, seed_class}
use Rattle.move_gen.specs.Given.{IsAddedEntry, IsOfTable}
use Rattle.move_gen.specs.Giving.{IsOfSome}
use Rattle.move_gen.proofs.ListGrowth.{gives_alike}
use Rattle.move_gen.proofs.KeyMoves.{adds_entries}
use Rattle.move_gen.proofs.seeds.give_seeds.Goals as goal

pub returns : goal.returns
returns c =
    let book = rulebook c.args.ctx.now in let cur = c.args.cur.now in let goal = c.args.goal.now in
    gives_alike (IsOfSome (IsOfTable (IsAddedEntry (IsSeed book goal) seed_class cur)) goal) (IsFromSeeds book cur goal)
    c.give_entries.result c.args.out.now.items c.give_entries.new.out.items
    (λ g. let both = adds_entries (IsSeed book goal) seed_class cur goal g in (both.1, both.0)) c.give_entries.ensures
