use Rattle.std.proofs.Common.{ap, map, ◌∙◌}
use Rattle.conf_doc.proofs.Lists.{map-remove}
use Rattle.conf_doc.specs.Trees.{document}
use Rattle.conf_doc.proofs.trees.Items.remove.Goals as goal

pub returns-clause-rest : goal.returns-clause-rest
returns-clause-rest c = rw (← c.self.view_is) (ap (map document) c.remove.ensures.items ∙ map-remove document _ _)
