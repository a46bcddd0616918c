use Rattle.move_core.proofs.BoxLists.{kinds_kept, of_generator}
use Rattle.std.proofs.Common.{◌+◌}
use Rattle.move_core.proofs.kits.Kit.moves_at.Goals as goal

pub returns-clause-ok : goal.returns-clause-ok
returns-clause-ok g c =
    c.ask_generator.ensures.ok (c.args.i + 1)
    (of_generator _ c.args.self.now.gens.items c.args.i c.index_mut.result.now c.index_mut.ensures.value c.requires.at c.requires.kinds.0)

pub returns-clause-err : goal.returns-clause-err
returns-clause-err g c =
    c.ask_generator.ensures.err (c.args.i + 1)
    (of_generator _ c.args.self.now.gens.items c.args.i c.index_mut.result.now c.index_mut.ensures.value c.requires.at c.requires.kinds.0)

pub returns-clause-kinds : goal.returns-clause-kinds
returns-clause-kinds g c =
    (kinds_kept _ _ _ c.args.i c.index_mut.result.now _ c.requires.kinds.0 c.index_mut.ensures.value c.ask_generator.ensures.kind, c.requires.kinds.1, c.requires.kinds.2)
