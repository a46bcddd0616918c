use Rattle.std.proofs.Common.{None, Some, ap, position, refl, subst, sym, ◌∙◌, ◌≡◌}
use Rattle.conf_check.specs.Wants.{want_of}
use Rattle.ref_index.specs.PlaceMaps.{is_for}
use Rattle.ref_index.specs.Places.{without_place}
use Rattle.ref_index.specs.Referrers.{place_of}
use Rattle.ref_index.proofs.LeafGroups.{change_group, no_group}
use Rattle.ref_index.proofs.groups.take_from.Goals as goal

pub returns-in-Some : goal.returns-in-Some
returns-in-Some c =
    change_group (want_of c.args.at.now.want).target c.args.groups.now.items (without_place (place_of c.args.at.now)) c.in-Some.i c.index_mut.result.now
    c.take.new.self
    (subst (λ gs. position (is_for (want_of c.args.at.now.want).target) gs ≡ Some c.in-Some.i) c.as_slice.ensures.value (sym c.in-Some.ensures))
    (c.take.ensures.target ∙ ap (λ g. g.target) c.index_mut.ensures.value)
    (c.take.ensures.places ∙ ap (λ g. without_place (place_of c.args.at.now) g.places.items) c.index_mut.ensures.value)

pub returns-in-None : goal.returns-in-None
returns-in-None c =
    no_group (want_of c.args.at.now.want).target c.args.groups.now.items (without_place (place_of c.args.at.now))
    (subst (λ gs. position (is_for (want_of c.args.at.now.want).target) gs ≡ None) c.as_slice.ensures.value (sym c.in-None.ensures)) refl
