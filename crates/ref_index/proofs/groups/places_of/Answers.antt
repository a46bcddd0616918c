use Rattle.std.proofs.Common.{sym, ◌∙◌}
use Rattle.conf_check.specs.Wants.{want_of}
use Rattle.ref_index.proofs.LeafGroups.{no_places, places_found}
use Rattle.ref_index.proofs.groups.places_of.Goals as goal

pub returns-in-Some : goal.returns-in-Some
returns-in-Some c =
    c.as_slice.ensures.value ∙ sym (places_found (want_of c.args.want.now).target c.args.groups.now c.in-Some.i c.index-groups-i.result (sym c.in-Some.ensures))

pub returns-in-None : goal.returns-in-None
returns-in-None c = sym (no_places (want_of c.args.want.now).target c.args.groups.now (sym c.in-None.ensures))
