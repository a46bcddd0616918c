use Rattle.move_core.specs.Contexts.{rulebook}
use Rattle.move_gen.specs.Choosing.{IsSeedOfFirst}
use Rattle.move_gen.proofs.seeds.seed_of.Given as goal

abbrev pub invariant-loop-i : goal.invariant-loop-i
invariant-loop-i l = IsSeedOfFirst (rulebook l.ctx) l.goal l.table l.key l.entry l.i l.seed
