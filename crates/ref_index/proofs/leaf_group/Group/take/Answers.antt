use Rattle.std.proofs.Common.{ap, ◌∙◌}
use Rattle.ref_index.specs.Places.{are_up_to}
use Rattle.ref_index.specs.Referrers.{place_of}
use Rattle.ref_index.proofs.Bounds.{bounded_without}
use Rattle.ref_index.proofs.leaf_group.Group.take.Goals as goal

pub invariant_of-self : goal.invariant_of-self
invariant_of-self c =
    let group = c.args.self.now in
    record {
      bounded = ap (are_up_to group.bound) c.take_place.ensures
          ∙ bounded_without group.bound (place_of c.args.at.now) group.places.items group.bounded;
    }
