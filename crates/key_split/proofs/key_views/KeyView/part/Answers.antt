use Rattle.std.proofs.Common.{◌∙◌, ap, lit<, slice_get}
use Rattle.std.proofs.lemmas.Iterator.Consumers.{nth_from_yields_List}
use Rattle.std.proofs.lemmas.Iterator.Splits.{YieldsList-from_str_split}
use Rattle.host_core.specs.Characters.{bar}
use Rattle.key_split.specs.Key.{key_parts}
use Rattle.key_split.proofs.key_views.KeyView.part.Goals as goal

pub returns : goal.returns
returns c =
    nth_from_yields_List _ _ _ c.nth.ensures.ran (YieldsList-from_str_split bar c.self.inside.key.now (lit< tt) c.split.ensures.text c.split.ensures.has_more c.split.ensures.pattern)
    ∙ ap (λ key. slice_get (key_parts key) c.args.i) c.self.view_is
