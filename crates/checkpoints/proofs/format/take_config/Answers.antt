use Rattle.std.proofs.Common.{◌≡◌, ap, ◌∙◌}
use Rattle.conf_doc.specs.Trees.{document}
use Rattle.conf_doc.proofs.Equalities.{pairs-members_of}
use Rattle.checkpoints.specs.Formats.{members_in}
use Rattle.checkpoints.proofs.format.take_config.Goals as goal

pub returns-in-Map : goal.returns-in-Map
returns-in-Map c =
    let same : members_in (document c.args.tree) ≡ c.in-Map.members =
    ap (λ t. members_in (document t)) c.in-Map.is ∙ pairs-members_of c.in-Map.members in
    rw same c.take.ensures.taken
