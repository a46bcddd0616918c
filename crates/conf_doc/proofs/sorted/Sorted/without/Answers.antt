use Rattle.std.proofs.Common.{sym, ap, ◌∙◌, subst}
use Rattle.conf_doc.specs.Pairs.{without}
use Rattle.conf_doc.specs.Shared.{pairs_of}
use Rattle.conf_doc.specs.WellFormed.{IsShaped}
use Rattle.conf_doc.proofs.WellFormed.{shaped_without}
use Rattle.conf_doc.proofs.sorted.Sorted.without.Goals as goal

pub invariant_of-result : goal.invariant_of-result
invariant_of-result g c =
    let shared = c.in_ok-pairs.ensures ∙ ap pairs_of c.deref.ensures.value in
    subst IsShaped (sym (c.remove_pair.ensures ∙ ap (without c.args.name.now) shared)) (shaped_without c.args.name.now (pairs_of c.self.inside.pairs.items) c.self.invariant)
