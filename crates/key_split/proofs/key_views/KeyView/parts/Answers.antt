use Rattle.std.proofs.Common.{◌∙◌, ap, lit<, length}
use Rattle.std.proofs.lemmas.Iterator.Consumers.{count_from_yields_List}
use Rattle.std.proofs.lemmas.Iterator.Splits.{YieldsList-from_str_split}
use Rattle.host_core.specs.Characters.{bar}
use Rattle.key_split.specs.Key.{key_parts}
use Rattle.key_split.proofs.key_views.KeyView.parts.Goals as goal

pub returns : goal.returns
returns c =
    count_from_yields_List c.split.result _ c.count.ensures.ran (YieldsList-from_str_split bar c.self.inside.key.now (lit< tt) c.split.ensures.text c.split.ensures.has_more c.split.ensures.pattern)
    ∙ ap (λ key. length (key_parts key)) c.self.view_is
