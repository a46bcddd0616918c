use Rattle.std.proofs.Common.{ap, ◌∙◌}
use Rattle.conf_doc.specs.Shared.{pair_of, pairs_of}
use Rattle.conf_doc.proofs.Edits.{remove_seen, without_seen}
use Rattle.conf_doc.proofs.sorted.remove_pair.Goals as goal

pub returns-in-Ok : goal.returns-in-Ok
returns-in-Ok g c = ap pairs_of c.remove.ensures.items ∙ remove_seen pair_of _ _ _ _ c.deref.ensures.value c.requires c.in-Ok.ensures.found

pub returns-in-Err : goal.returns-in-Err
returns-in-Err g c = without_seen pair_of _ _ _ _ c.deref.ensures.value c.requires c.in-Err.ensures.absent
