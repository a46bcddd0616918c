use Rattle.std.proofs.Common.{◌≡◌, ◌∙◌, Bool, List, ℕ, Result, Ok, Err, IfOk}
use Rattle.host_core.specs.declared.errors.Memory.{Memory}
use Rattle.yang_text.specs.Statements.{declaration}
use Rattle.yang_types.specs.DataType.{DataType}
use Rattle.yang_types.specs.DataTypes.{data_type}
use Rattle.yang_types.specs.declared.types.Ty.{Ty}
use Rattle.yang_scope.specs.TypeFaults.{DecidesPatterns}
use Rattle.yang_values.proofs.WrittenTypes.{value_flat}
use Rattle.yang_values.proofs.type_values.type_value.Goals as goal

-- a type that is one value is also another, where these are equal
same_type : (r : Result Ty Memory) (one other : (List ℕ → Bool) → DataType) → ((p : List ℕ → Bool) → one p ≡ other p)
    → IfOk r (λ ty. (p : List ℕ → Bool) → DecidesPatterns p → data_type ty ≡ one p)
    → IfOk r (λ ty. (p : List ℕ → Bool) → DecidesPatterns p → data_type ty ≡ other p)
same_type (Ok ty) one other same is = λ p decides. is p decides ∙ same p
same_type (Err m) one other same is = tt

pub returns : goal.returns
returns c =
    same_type c.stored_type.result _ _
    (λ is_pattern. value_flat is_pattern c.args.names.now c.args.number (declaration c.args.statement.now))
    c.stored_type.ensures
