use Rattle.std.proofs.Common.{sym, ap, ◌∙◌}
use Rattle.std.specs.List.{list_all}
use Rattle.conf_doc.specs.Trees.{document}
use Rattle.conf_doc.proofs.Equalities.{documents-items_of}
use Rattle.conf_store.specs.Shapes.{is_text, is_value}
use Rattle.conf_store.proofs.shapes.ValueShaped.is_shaped.Goals as goal

pub returns-in-List : goal.returns-in-List
returns-in-List c =
    c.are_texts.ensures ∙ sym (ap (list_all is_text) (documents-items_of c.in-List.items)) ∙ sym (ap (λ t. is_value (document t)) c.in-List.is)
