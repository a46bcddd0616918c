use Rattle.conf_check.proofs.want_iter.WantIter.of_entry.Goals as goal

pub invariant_of-result : goal.invariant_of-result
invariant_of-result c = record { shaped = λ _. ∣ c.shape_at_place-shape.ensures ∣₁ }
