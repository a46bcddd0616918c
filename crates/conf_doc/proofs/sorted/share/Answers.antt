use Rattle.conf_doc.specs.Shared.{pair_of}
use Rattle.conf_doc.proofs.ItemMaps.{clones-map}
use Rattle.conf_doc.proofs.sorted.share.Goals as goal

pub returns : goal.returns
returns g c = clones-map pair_of _ _ c.in_ok-to_vec.ensures.ok
