use Rattle.std.proofs.Common.{◌≡◌, ◌++◌, length, take}
use Rattle.move_core.specs.Operations.{count_line, plan_lines}
use Rattle.move_core.proofs.plan_texts.plan_text.Given as goal

abbrev pub invariant-loop-i : goal.invariant-loop-i
invariant-loop-i l = l.text.items ≡ count_line (length l.plan) ++ plan_lines 1 (take l.i l.plan)
