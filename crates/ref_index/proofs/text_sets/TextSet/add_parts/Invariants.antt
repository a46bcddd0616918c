use Rattle.std.proofs.Common.{◌≡◌, ℕ, ◌<◌, List, length, Some, slice_get}
use Rattle.key_split.specs.Key.{key_parts}
use Rattle.ref_index.specs.Texts.{Has}
use Rattle.ref_index.proofs.text_sets.TextSet.add_parts.Given as goal

abbrev pub invariant-loop-part : goal.invariant-loop-part
invariant-loop-part l =
    ((s : List ℕ) → Has l.initial.self s → Has l.self s)
    × ((j : ℕ) → j < length l.yielded → (s : List ℕ) → slice_get (key_parts l.key) j ≡ Some s → Has l.self s)
