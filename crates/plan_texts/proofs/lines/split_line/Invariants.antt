use Rattle.std.proofs.Common.{take}
use Rattle.plan_texts.specs.Lines.{HasNoFeed}
use Rattle.plan_texts.proofs.lines.split_line.Given as goal

abbrev pub invariant-loop-i : goal.invariant-loop-i
invariant-loop-i l = HasNoFeed (take l.i l.text)
