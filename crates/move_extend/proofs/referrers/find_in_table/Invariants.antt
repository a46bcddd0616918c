use Rattle.std.proofs.Common.{map}
use Rattle.move_extend.specs.Found.{Finds}
use Rattle.move_extend.specs.Mentions.{GivesOfEntry}
use Rattle.move_extend.proofs.DistinctLists.{GivenBefore}
use Rattle.move_extend.proofs.referrers.find_in_table.Given as goal

abbrev pub invariant-loop-i : goal.invariant-loop-i
invariant-loop-i l = Finds (GivenBefore (GivesOfEntry l.change l.gone.table.now l.table) (map (λ e. e.0) l.entries) l.i) l.fn.found.items l.found.items
