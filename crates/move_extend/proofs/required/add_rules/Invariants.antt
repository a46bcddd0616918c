use Rattle.move_extend.specs.Found.{Finds}
use Rattle.move_extend.specs.Requireds.{RuleGives}
use Rattle.move_extend.proofs.DistinctLists.{GivenBefore}
use Rattle.move_extend.proofs.required.add_rules.Given as goal

abbrev pub invariant-loop-rule : goal.invariant-loop-rule
invariant-loop-rule l = Finds (GivenBefore (RuleGives l.change l.table l.key) l.rules l.rule-index) l.fn.found l.found
