use Rattle.std.proofs.Common.{ap, ◌∙◌}
use Rattle.std.specs.List.{fold}
use Rattle.conf_doc.specs.Order.{pairs_fed}
use Rattle.conf_doc.proofs.ItemMaps.{fed_shared}
use Rattle.conf_doc.proofs.comparisons.SortedHash.hash.Goals as goal

pub returns : goal.returns
returns g c =
    let F = g.X.Hash.hash_input in
    c.hash.ensures ∙ ap (fold g.H.Hasher.write c.args.state.now) (fed_shared F _ ∙ ap (pairs_fed F) c.pairs.ensures)
