use Rattle.std.proofs.Common.{take}
use Rattle.plan_check.specs.Candidates.{GivesSome, Takes}
use Rattle.plan_check.proofs.candidates.add_all_required.Given as goal

abbrev pub invariant-loop-rule : goal.invariant-loop-rule
invariant-loop-rule l = Takes (GivesSome l.table l.key (take l.rule-index l.rules)) l.initial.found.items l.found.items
