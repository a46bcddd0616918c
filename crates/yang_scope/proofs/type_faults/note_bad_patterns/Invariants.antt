use Rattle.std.proofs.Common.{◌≡◌, ℕ, Bool, List, take}
use Rattle.std.specs.List.{flat_map}
use Rattle.yang_text.specs.Statements.{declaration}
use Rattle.yang_scope.specs.Faults.{least_of}
use Rattle.yang_scope.specs.TypeFaults.{DecidesPatterns, bad_if_pattern}
use Rattle.yang_scope.proofs.type_faults.note_bad_patterns.Given as goal

abbrev pub invariant-loop-child : goal.invariant-loop-child
invariant-loop-child l = (is_pattern : List ℕ → Bool) → DecidesPatterns is_pattern
    → l.least ≡ least_of l.fn.least (flat_map (λ s. bad_if_pattern is_pattern l.file (declaration s)) (take l.child-index l.child-items))
