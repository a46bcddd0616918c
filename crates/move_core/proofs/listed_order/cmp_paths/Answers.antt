use Rattle.std.proofs.Common.{◌∙◌, arith}
use Rattle.std.specs.Ordering.{nat_cmp}
use Rattle.host_core.specs.Names.{name_cmp}
use Rattle.move_core.proofs.ListOrders.{decided_at, decided_by_lengths}
use Rattle.move_core.proofs.listed_order.cmp_paths.Goals as goal

pub returns-in_default : goal.returns-in_default
returns-in_default c =
    decided_at name_cmp _ _ c.loop-i.i _ _ c.cmp.result c.loop-i.invariant c.name_at.ensures.name
    c.name_at-in-loop-i.ensures.name c.cmp.ensures c.in_default.not-Equal

pub returns : goal.returns
returns c =
    c.cmp-2.ensures ∙ (λ i. nat_cmp (c.len-3.ensures.len i) (c.len-4.ensures.len i))
    ∙ decided_by_lengths name_cmp _ _ c.loop-i.i c.loop-i.invariant (λ more. omega arith)
