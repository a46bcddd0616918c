use Rattle.std.proofs.Common.{◌≡◌, ℕ, Bool, List, map}
use Rattle.yang_scope.specs.TypeFaults.{DecidesPatterns}
use Rattle.yang_values.specs.Endless.{known_of, place_of, AreRight}
use Rattle.yang_values.proofs.endless.settle.Given as goal

abbrev pub invariant-loop-steps : goal.invariant-loop-steps
invariant-loop-steps l = record {
  places : map place_of l.known.items ≡ map place_of l.fn.known.items;
  right : (is_pattern : List ℕ → Bool) → DecidesPatterns is_pattern → AreRight is_pattern l.names l.text l.steps (map known_of l.known.items);
}
