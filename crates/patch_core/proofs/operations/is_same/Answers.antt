use Rattle.conf_doc.specs.Trees.{document}
use Rattle.patch_core.proofs.Sameness.{same_decided}
use Rattle.patch_core.proofs.operations.is_same.Goals as goal

pub returns : goal.returns
returns c = same_decided _ (document c.args.value.now) (document c.args.found.now) c.same.ensures
