use Rattle.conf_doc.specs.Shared.{pair_of}
use Rattle.conf_doc.proofs.Edits.{first_seen, first_gap_seen}
use Rattle.conf_doc.proofs.sorted.Sorted.first_from.Goals as goal

pub returns-in-Ok : goal.returns-in-Ok
returns-in-Ok g c = rw (← c.self.view_is) (first_seen pair_of _ _ _ _ c.deref.ensures.value c.self.invariant.rising c.in-Ok.ensures.found)

pub returns-in-Err : goal.returns-in-Err
returns-in-Err g c = rw (← c.self.view_is) (first_gap_seen pair_of _ _ _ _ c.deref.ensures.value c.in-Err.ensures.absent)
