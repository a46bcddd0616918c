use Rattle.std.proofs.Common.{Some, ap, ◌∙◌}
use Rattle.conf_doc.specs.Shared.{pair_of}
use Rattle.conf_doc.proofs.Edits.{read_seen, none_seen}
use Rattle.conf_doc.proofs.sorted.Sorted.find.Goals as goal

pub returns-in-Ok : goal.returns-in-Ok
returns-in-Ok g c =
    rw (← c.self.view_is) (ap (λ p. Some p.1) c.as_ref.ensures ∙ read_seen pair_of _ _ _ _ c.deref.ensures.value c.index.result.now c.self.invariant.rising c.in-Ok.ensures.found c.index.ensures)

pub returns-in-Err : goal.returns-in-Err
returns-in-Err g c = rw (← c.self.view_is) (none_seen pair_of _ _ _ _ c.deref.ensures.value c.self.invariant.rising c.in-Err.ensures.absent)
