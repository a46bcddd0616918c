use Rattle.std.proofs.Common.{[], ap, sym, ◌∷◌, ◌++◌, ◌∙◌}
use Rattle.ref_index.specs.Places.{are_up_to}
use Rattle.ref_index.specs.Referrers.{place_of}
use Rattle.ref_index.proofs.Bounds.{bounded_after, put_after}
use Rattle.ref_index.proofs.leaf_group.Group.put_last.Goals as goal

pub invariant_of-self-2 : goal.invariant_of-self-2
invariant_of-self-2 c =
    let place = place_of c.args.at.now in
    let group = c.args.self.now in
    record {
      bounded = ap (λ b. are_up_to b c.push.new.self.items) c.in_ok-bound.ensures
          ∙ ap (are_up_to place) (c.in_ok-push.ensures.items ∙ ap (λ p. group.places.items ++ p ∷ []) c.in_ok-place.ensures)
          ∙ bounded_after group.bound place group.places.items c.requires group.bounded;
    }

pub returns-clause-ok : goal.returns-clause-ok
returns-clause-ok c =
    let group = c.args.self.now in
    c.in_ok-push.ensures.items ∙ ap (λ p. group.places.items ++ p ∷ []) c.in_ok-place.ensures
    ∙ sym (put_after group.bound (place_of c.args.at.now) group.places.items c.requires group.bounded)
