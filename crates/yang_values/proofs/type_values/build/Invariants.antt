use Rattle.std.proofs.Common.{◌≡◌, [], ℕ, Bool, List, drop, map, reverse}
use Rattle.yang_types.specs.DataTypes.{data_type}
use Rattle.yang_scope.specs.TypeFaults.{DecidesPatterns}
use Rattle.yang_values.specs.Walks.{visited, built}
use Rattle.yang_values.proofs.type_values.build.Given as goal

abbrev pub invariant-loop-visit : goal.invariant-loop-visit
invariant-loop-visit l = (is_pattern : List ℕ → Bool) → DecidesPatterns is_pattern
    → built is_pattern l.names (map visited l.visits) []
    ≡ built is_pattern l.names (map visited (drop l.visit-index l.visits)) (reverse (map data_type l.types.items))
