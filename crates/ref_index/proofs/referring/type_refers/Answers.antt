use Rattle.std.proofs.Common.{◌∙◌}
use Rattle.ref_index.proofs.Leafrefs.{union_refers}
use Rattle.ref_index.proofs.referring.type_refers.Goals as goal

pub returns-in-Union : goal.returns-in-Union
returns-in-Union c = c.members_refer.ensures ∙ union_refers c.args.to.now c.args.ty.now c.in-Union.types c.in-Union.is
