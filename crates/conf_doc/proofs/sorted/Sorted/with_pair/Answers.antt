use Rattle.std.proofs.Common.{sym, ap, ◌∙◌, subst}
use Rattle.conf_doc.specs.Pairs.{put}
use Rattle.conf_doc.specs.Shared.{pairs_of}
use Rattle.conf_doc.specs.WellFormed.{IsShaped}
use Rattle.conf_doc.proofs.WellFormed.{shaped_put}
use Rattle.conf_doc.proofs.sorted.Sorted.with_pair.Goals as goal

pub invariant_of-result : goal.invariant_of-result
invariant_of-result g c =
    let pair = c.args.pair.value in
    let shared = c.in_ok-pairs.ensures ∙ ap pairs_of c.deref.ensures.value in
    let is = c.in_ok-put_pair.ensures ∙ ap (put pair.0 pair.1) shared in
    subst IsShaped (sym is) (shaped_put pair.0 pair.1 (pairs_of c.self.inside.pairs.items) c.requires.named c.requires.utf8 c.self.invariant)
