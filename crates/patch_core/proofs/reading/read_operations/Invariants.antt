use Rattle.std.proofs.Common.{◌≡◌, Ok, map}
use Rattle.patch_core.specs.Operation.{operation_of}
use Rattle.patch_core.proofs.PatchElements.{all_read}
use Rattle.patch_core.proofs.reading.read_operations.Given as goal

abbrev pub invariant-loop-index : goal.invariant-loop-index
invariant-loop-index l =
    (goal.iterator-loop-index).can_next l.index-iterator
    × (goal.iterator-loop-index).is_finite l.index-iterator
    × (all_read l.yielded ≡ Ok (map operation_of l.ops))
