use Rattle.std.proofs.Common.{[]}
use Rattle.move_extend.specs.Found.{Finds}
use Rattle.move_extend.specs.Mentions.{GivesOfTable}
use Rattle.move_extend.proofs.DistinctLists.{GivenBefore}
use Rattle.move_extend.proofs.referrers.find_in_config.Given as goal

abbrev pub invariant-loop-i : goal.invariant-loop-i
invariant-loop-i l = Finds (GivenBefore (GivesOfTable l.change l.gone.table.now) l.change.cur.now l.i) [] l.found.items
