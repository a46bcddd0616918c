use Rattle.std.proofs.Common.{sym, ap, ◌∙◌}
use Rattle.std.specs.List.{list_all}
use Rattle.conf_doc.specs.Trees.{document}
use Rattle.conf_doc.proofs.Equalities.{pairs-members_of}
use Rattle.conf_store.specs.Shapes.{is_config, is_named, is_table}
use Rattle.conf_store.proofs.shapes.ConfigShaped.is_shaped.Goals as goal

pub returns-in-Map : goal.returns-in-Map
returns-in-Map c =
    c.are_shaped.ensures ∙ sym (ap (list_all (is_named is_table)) (pairs-members_of c.in-Map.tables)) ∙ sym (ap (λ t. is_config (document t)) c.in-Map.is)
