use Rattle.conf_doc.specs.Trees.{named_document}
use Rattle.conf_doc.proofs.Edits.{part_read}
use Rattle.conf_doc.proofs.trees.Members.at.Goals as goal

pub returns : goal.returns
returns c = rw (← c.self.view_is) (part_read named_document _ _ c.index.result.now (rw (← c.self.view_is) at c.requires) c.index.ensures)
