use Rattle.std.proofs.Common.{[], ◌∷◌, ◌++◌, sym, ap, ◌∙◌}
use Rattle.conf_doc.specs.Shared.{pair_of, pairs_of}
use Rattle.conf_doc.proofs.Lists.{map-append, take_more}
use Rattle.conf_doc.proofs.sorted.Sorted.sharing.Goals as goal

pub loop-i-preserved : goal.loop-i-preserved
loop-i-preserved g c =
    let pair = c.in_ok-pair.pair in
    ap pairs_of c.in_ok-push.ensures.items
    ∙ map-append pair_of c.loop-i.pairs.items (pair ∷ [])
    ∙ ap (λ ps. ps ++ pair.value ∷ []) c.loop-i.invariant
    ∙ sym (take_more c.args.self.now c.loop-i.i pair.value c.in_ok-pair.ensures)
