use Rattle.std.proofs.Common.{take}
use Rattle.std.specs.Option.{option_copied}
use Rattle.move_lists.specs.Leading.{LeadsAmong}
use Rattle.move_lists.proofs.offers.leading.Given as goal

-- what was found leads those that were looked at
abbrev pub invariant-loop-generated : goal.invariant-loop-generated
invariant-loop-generated l = LeadsAmong l.start l.goal (take l.generated-index l.offers) (option_copied l.found)
