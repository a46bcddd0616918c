use Rattle.move_lists.specs.Reaches.{AreNoted}
use Rattle.move_lists.proofs.reaches.Reach.note_all.Given as goal

-- those that were taken are noted
abbrev pub invariant-loop-mv : goal.invariant-loop-mv
invariant-loop-mv l = AreNoted l.beside l.fn.self l.self l.yielded l.depth
