use Rattle.std.proofs.Common.{[], ap, ◌∷◌, ◌++◌, ◌∙◌}
use Rattle.ref_index.specs.Places.{are_up_to}
use Rattle.ref_index.specs.Referrers.{place_of}
use Rattle.ref_index.proofs.Bounds.{bounded_one}
use Rattle.ref_index.proofs.leaf_group.new_group.Goals as goal

pub invariant_of-result : goal.invariant_of-result
invariant_of-result c =
    let place = place_of c.args.at.now in
    record {
      bounded = ap (λ b. are_up_to b c.push.new.self.items) c.in_ok-bound.ensures
          ∙ ap (are_up_to place) (c.in_ok-push.ensures.items ∙ ap (λ ps. ps ++ c.in_ok-new-2.field-0 ∷ []) c.new-places.ensures.items ∙ ap (λ p. p ∷ []) c.in_ok-new-2.ensures)
          ∙ bounded_one place;
    }
