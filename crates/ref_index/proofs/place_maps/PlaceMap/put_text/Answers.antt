use Rattle.std.proofs.Common.{Some, ap, cond, subst, sym, ◌∙◌, ◌≡◌, ℕ, List}
use Rattle.std.specs.Str.{bytes_eq}
use Rattle.std.proofs.lemmas.Map.Text.{hash_map_updates_text}
use Rattle.indexmap.specs.IndexMap.{get_by_text}
use Rattle.conf_check.specs.Wants.{want_of}
use Rattle.ref_index.specs.PlaceMaps.{places_in}
use Rattle.ref_index.specs.Places.{with_place}
use Rattle.ref_index.specs.Referrers.{place_of}
use Rattle.ref_index.proofs.TextMaps.{change_text, places_of}
use Rattle.ref_index.proofs.place_maps.PlaceMap.put_text.Goals as goal

pub returns-clause-ok : goal.returns-clause-ok
returns-clause-ok c =
    let old = c.args.self.now.by_text in
    let new = c.insert.new.self in
    let hs = c.put_in.new.groups in
    change_text (λ v. v.items) (want_of c.args.at.now.want) (get_by_text old) (get_by_text new) hs
    (subst (λ (bs : List ℕ). (s : List ℕ) → get_by_text new s ≡ cond (bytes_eq bs s) (Some hs) (get_by_text old s)) c.in_ok-text.ensures.ok
    (hash_map_updates_text _ old new (Some hs) c.in_ok-insert.ensures.updates))
    (with_place (place_of c.args.at.now)) c.new-groups.result.items
    (λ t. ap (places_of (λ v. v.items) t) c.requires ∙ sym (ap (λ gs. places_in gs t) c.new-groups.ensures.items))
    c.in_ok-put_in.ensures.ok
