use Rattle.std.proofs.Common.{arith, refl}
use Rattle.yang_pattern.proofs.Appending.{left_more, linked_more}
use Rattle.yang_pattern.proofs.fragments.link.Goals as goal

pub loop-place-init : goal.loop-place-init
loop-place-init c = record { linked = λ k h. absurd (omega arith); left = λ k h. refl }

pub loop-place-preserved : goal.loop-place-preserved
loop-place-preserved c =
    let l = c.loop-place in
    let old = c.deref_mut-place-items.result.now in
    record {
      linked = linked_more old l.place-items l.place-index c.lead_on.result c.args.entered.now c.args.empty c.place-item.result (omega arith) c.place-item.is l.invariant.linked l.invariant.left c.lead_on.ensures;
      left = left_more old l.place-items l.place-index c.lead_on.result l.invariant.left;
    }
