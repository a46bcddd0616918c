use Rattle.std.proofs.Common.{◌≡◌, Some, map}
use Rattle.patch_core.specs.Tokens.{tokens_of_parts}
use Rattle.patch_core.proofs.pointers.tokens_of.Given as goal

abbrev pub invariant-loop-part : goal.invariant-loop-part
invariant-loop-part l =
    (goal.iterator-loop-part).can_next l.part-iterator
    × (goal.iterator-loop-part).is_finite l.part-iterator
    × (tokens_of_parts (map (λ part. part.now) l.yielded) ≡ Some l.tokens)
