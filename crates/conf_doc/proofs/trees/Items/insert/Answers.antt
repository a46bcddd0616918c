use Rattle.std.proofs.Common.{ap, map, ◌∙◌}
use Rattle.conf_doc.proofs.Lists.{map-insert}
use Rattle.conf_doc.specs.Trees.{document}
use Rattle.conf_doc.proofs.trees.Items.insert.Goals as goal

pub returns-clause-ok : goal.returns-clause-ok
returns-clause-ok c = rw (← c.self.view_is) (ap (map document) c.in_ok-insert.ensures.items ∙ map-insert document _ _ _)
