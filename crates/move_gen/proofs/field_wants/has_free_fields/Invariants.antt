use Rattle.std.proofs.Common.{ℕ, List}
use Rattle.move_gen.specs.FieldWants.{AreElsewhere}
use Rattle.move_gen.proofs.field_wants.has_free_fields.Given as goal

abbrev pub invariant-loop-at : goal.invariant-loop-at
invariant-loop-at l =
    (goal.iterator-loop-at).can_next l.at-iterator
    × (goal.iterator-loop-at).is_finite l.at-iterator
    × ((f : List ℕ) → AreElsewhere l.ctx.models l.goal l.table l.key f l.at-iterator)
