use Rattle.std.proofs.Common.{map}
use Rattle.move_extend.specs.Found.{Finds}
use Rattle.move_extend.specs.Requireds.{RulesGive}
use Rattle.move_extend.proofs.DistinctLists.{GivenBefore}
use Rattle.move_extend.proofs.required.add_keys.Given as goal

abbrev pub invariant-loop-i : goal.invariant-loop-i
invariant-loop-i l = Finds (GivenBefore (RulesGive l.change l.rules l.table) (map (λ e. e.0) l.entries) l.i) l.fn.found l.found
