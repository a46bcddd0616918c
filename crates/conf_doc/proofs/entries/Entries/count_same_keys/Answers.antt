use Rattle.conf_doc.proofs.Segments.{same_more}
use Rattle.conf_doc.proofs.entries.Entries.count_same_keys.Goals as goal

pub loop-next-preserved : goal.loop-next-preserved
loop-next-preserved c =
    let so_far = c.loop-next.invariant in
    let next = c.count_next_keys-next-in-loop-next.ensures in
    record { so_far = same_more _ _ _ _ _ _ so_far.so_far so_far.next; next = next.same; none = next.none }
