use Rattle.std.proofs.Common.{not, rules}
use Rattle.std.proofs.lemmas.Fn.{filter_same}
use Rattle.ref_index.specs.Places.{is_place}
use Rattle.ref_index.specs.Referrers.{place_of}
use Rattle.ref_index.proofs.leaf_group.take_place.Goals as goal

pub returns : goal.returns
returns c = filter_same _ (λ q. not (is_place q (place_of c.args.at.now))) _ (λ x b f' k. search rules) _ _ c.retain.ensures.filtered
