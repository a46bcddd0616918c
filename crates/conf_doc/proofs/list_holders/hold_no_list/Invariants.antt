use Rattle.std.proofs.Common.{take}
use Rattle.conf_doc.specs.ListHolders.{HasNoList}
use Rattle.conf_doc.specs.WellFormed.{Each}
use Rattle.conf_doc.proofs.list_holders.hold_no_list.Given as goal

abbrev pub invariant-loop-i : goal.invariant-loop-i
invariant-loop-i l = Each HasNoList (take l.i l.list)
