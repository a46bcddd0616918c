use Rattle.std.proofs.Common.{Some, ap, rules, sym}
use Rattle.std.proofs.lemmas.Map.Text.{hash_map_updates_text}
use Rattle.std.proofs.lemmas.Result.{on_err_weaker, on_ok_weaker}
use Rattle.indexmap.specs.IndexMap.{get_by_text}
use Rattle.conf_check.specs.Wants.{want_of}
use Rattle.ref_index.specs.Places.{with_place}
use Rattle.ref_index.specs.Referrers.{place_of}
use Rattle.ref_index.proofs.TextMaps.{change_text, places_of, same_text}
use Rattle.ref_index.proofs.place_maps.PlaceMap.put.Goals as goal

pub returns-in-Some-clause-ok : goal.returns-in-Some-clause-ok
returns-in-Some-clause-ok c =
    let new = c.get_mut.follows.lender c.put_in.new.groups in
    on_ok_weaker c.put_in.result
    (λ change. change_text (λ v. v.items) (want_of c.args.at.now.want) (get_by_text c.args.self.now.by_text) (get_by_text new) c.put_in.new.groups
    (hash_map_updates_text c.args.at.now.want.text.now c.args.self.now.by_text new (Some c.put_in.new.groups)
    ((c.get_mut.follows.holds c.put_in.new.groups).3 (search rules)))
    (with_place (place_of c.args.at.now)) c.in-Some.groups.now.items
    (λ t. ap (places_of (λ v. v.items) t) (sym c.in-Some.ensures.value)) change)
    c.put_in.ensures.ok

pub returns-in-Some-clause-err : goal.returns-in-Some-clause-err
returns-in-Some-clause-err c =
    let new = c.get_mut.follows.lender c.put_in.new.groups in
    on_err_weaker c.put_in.result
    (λ same. same_text (λ v. v.items) (want_of c.args.at.now.want) (get_by_text c.args.self.now.by_text) (get_by_text new) c.put_in.new.groups
    (hash_map_updates_text c.args.at.now.want.text.now c.args.self.now.by_text new (Some c.put_in.new.groups)
    ((c.get_mut.follows.holds c.put_in.new.groups).3 (search rules)))
    c.in-Some.groups.now.items
    (λ t. ap (places_of (λ v. v.items) t) (sym c.in-Some.ensures.value)) same)
    c.put_in.ensures.err
