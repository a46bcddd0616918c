use Rattle.std.proofs.Common.{Some, ap, rules, sym}
use Rattle.std.proofs.lemmas.Map.Text.{hash_map_updates_text}
use Rattle.indexmap.specs.IndexMap.{get_by_text}
use Rattle.conf_check.specs.Wants.{want_of}
use Rattle.ref_index.specs.Places.{without_place}
use Rattle.ref_index.specs.Referrers.{place_of}
use Rattle.ref_index.proofs.TextMaps.{change_text, places_of}
use Rattle.ref_index.proofs.place_maps.PlaceMap.take.Goals as goal

pub returns-in-Some : goal.returns-in-Some
returns-in-Some c =
    let new = c.get_mut.follows.lender c.take_from.new.groups in
    change_text (λ v. v.items) (want_of c.args.at.now.want) (get_by_text c.args.self.now.by_text) (get_by_text new) c.take_from.new.groups
    (hash_map_updates_text c.args.at.now.want.text.now c.args.self.now.by_text new (Some c.take_from.new.groups)
    ((c.get_mut.follows.holds c.take_from.new.groups).3 (search rules)))
    (without_place (place_of c.args.at.now)) c.in-Some.groups.now.items
    (λ t. ap (places_of (λ v. v.items) t) (sym c.in-Some.ensures.value)) c.take_from.ensures
