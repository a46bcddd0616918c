use Rattle.std.proofs.Common.{take}
use Rattle.conf_doc.specs.ListHolders.{IsText}
use Rattle.conf_doc.specs.WellFormed.{Each}
use Rattle.conf_doc.proofs.list_holders.holds_no_list.Given as goal

abbrev pub invariant-loop-i : goal.invariant-loop-i
invariant-loop-i l = Each IsText (take l.i l.entry)
