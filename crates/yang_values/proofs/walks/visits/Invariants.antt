use Rattle.std.proofs.Common.{◌≡◌, ℕ, Bool, List, map, reverse}
use Rattle.yang_values.specs.TypeValues.{type_within}
use Rattle.yang_values.specs.Values.{most_steps}
use Rattle.yang_values.specs.Walks.{placed, step_type, visited, built}
use Rattle.yang_values.proofs.walks.visits.Given as goal

abbrev pub invariant-loop-round : goal.invariant-loop-round
invariant-loop-round l = (is_pattern : List ℕ → Bool)
    → type_within is_pattern l.names most_steps (placed l.fn.place)
    ≡ built is_pattern l.names (reverse (map visited l.found.items)) (map (step_type is_pattern l.names) (reverse l.pending.items))
