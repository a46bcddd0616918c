use Rattle.conf_doc.specs.Trees.{named_document}
use Rattle.conf_doc.proofs.Edits.{name_read}
use Rattle.conf_doc.proofs.trees.Members.name_at.Goals as goal

pub returns : goal.returns
returns c = rw (← c.self.view_is, c.as_str.ensures.text) (name_read named_document _ _ c.index.result.now (rw (← c.self.view_is) at c.requires) c.index.ensures)
