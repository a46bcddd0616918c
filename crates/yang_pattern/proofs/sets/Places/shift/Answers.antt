use Rattle.std.proofs.Common.{◌∙◌, sym, ap, ◌||◌, eqb, ◌+◌}
use Rattle.yang_pattern.specs.PlaceSets.{contains}
use Rattle.yang_pattern.proofs.SetLemmas.{moved_in, moved_out}
use Rattle.yang_pattern.proofs.sets.Places.shift.Goals as goal
use Rattle.yang_pattern.proofs.sets.Places.shift.Goals.{then-contains, else-contains}

pub loop-place-preserved : goal.loop-place-preserved
loop-place-preserved c =
    let by = c.args.by in
    let i = c.loop-place.place in
    elim c.if-contains.branch [
      | then-contains w ↦
          λ q h.
          ap (λ s. contains s q) w.result_set-is
          ∙ (w.insert.ensures q ∙ (ap (λ b. b || eqb q (i + by)) (c.loop-place.invariant q h) ∙ moved_in (contains c.args.self.now) by i q (sym c.contains.ensures ∙ w.if-contains.true)))
      | else-contains w ↦
          λ q h.
          ap (λ s. contains s q) w.result_set-is
          ∙ (c.loop-place.invariant q h ∙ moved_out (contains c.args.self.now) by i q (sym c.contains.ensures ∙ w.if-contains.false))
    ]
