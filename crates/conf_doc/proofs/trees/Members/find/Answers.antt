use Rattle.conf_doc.specs.Trees.{named_document}
use Rattle.conf_doc.proofs.Edits.{none_seen, read_seen}
use Rattle.conf_doc.proofs.trees.Members.find.Goals as goal

pub returns-in-Ok : goal.returns-in-Ok
returns-in-Ok c = rw (← c.self.view_is) (read_seen named_document _ _ _ _ c.deref.ensures.value c.index.result.now c.self.invariant c.in-Ok.ensures.found c.index.ensures)

pub returns-in-Err : goal.returns-in-Err
returns-in-Err c = rw (← c.self.view_is) (none_seen named_document _ _ _ _ c.deref.ensures.value c.self.invariant c.in-Err.ensures.absent)
