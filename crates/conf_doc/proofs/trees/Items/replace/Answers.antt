use Rattle.conf_doc.proofs.Lists.{map-set}
use Rattle.conf_doc.specs.Trees.{document}
use Rattle.conf_doc.proofs.trees.Items.replace.Goals as goal

pub returns-clause-put : goal.returns-clause-put
returns-clause-put c = rw (← c.self.view_is, c.replace.ensures.after) (map-set document _ _ _)
