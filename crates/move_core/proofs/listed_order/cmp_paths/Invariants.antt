use Rattle.host_core.specs.Names.{name_cmp}
use Rattle.move_core.proofs.ListOrders.{AreTied}
use Rattle.move_core.proofs.listed_order.cmp_paths.Given as goal

abbrev pub invariant-loop-i : goal.invariant-loop-i
invariant-loop-i l = AreTied name_cmp l.a l.b l.i
