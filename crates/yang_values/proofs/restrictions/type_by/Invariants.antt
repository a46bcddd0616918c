use Rattle.std.proofs.Common.{◌≡◌, ℕ, Bool, List, take}
use Rattle.std.specs.List.{fold}
use Rattle.yang_text.specs.Statements.{declaration}
use Rattle.yang_types.specs.DataTypes.{data_type}
use Rattle.yang_scope.specs.TypeFaults.{DecidesPatterns}
use Rattle.yang_values.specs.TypeValues.{restrict_if_taken}
use Rattle.yang_values.specs.Values.{restricted_values}
use Rattle.yang_values.proofs.restrictions.type_by.Given as goal

abbrev pub invariant-loop-child : goal.invariant-loop-child
invariant-loop-child l = (is_pattern : List ℕ → Bool) → DecidesPatterns is_pattern
    → data_type l.ty ≡ fold (λ t s. restrict_if_taken is_pattern l.base (restricted_values l.names l.number (declaration l.statement)) t (declaration s)) (data_type l.initial.ty) (take l.child-index l.child-items)
