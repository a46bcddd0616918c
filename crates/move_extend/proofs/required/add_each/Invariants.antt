use Rattle.move_extend.specs.Found.{Finds}
use Rattle.move_extend.specs.Requireds.{GivesIn}
use Rattle.move_extend.proofs.DistinctLists.{GivenBefore}
use Rattle.move_extend.proofs.required.add_each.Given as goal

abbrev pub invariant-loop-requiring : goal.invariant-loop-requiring
invariant-loop-requiring l = Finds (GivenBefore (GivesIn l.change l.table l.rule l.key) l.places l.requiring-index) l.fn.found l.found
