use Rattle.std.proofs.Common.{◌≡◌, ◌∙◌, Bool, List, ℕ, Result, Ok, Err, IfOk, [], map, sym, ap}
use Rattle.host_core.specs.declared.errors.Memory.{Memory}
use Rattle.yang_types.specs.DataType.{DataType}
use Rattle.yang_types.specs.DataTypes.{data_type}
use Rattle.yang_types.specs.declared.types.Ty.{Ty}
use Rattle.yang_scope.specs.TypeFaults.{DecidesPatterns}
use Rattle.yang_values.specs.Walks.{visited, built}
use Rattle.yang_values.proofs.Chains.{reverse-map}
use Rattle.yang_values.proofs.type_values.stored_type.Goals as goal

-- a type that is one value is also another, where these are equal
same_type : (r : Result Ty Memory) (one other : (List ℕ → Bool) → DataType) → ((p : List ℕ → Bool) → one p ≡ other p)
    → IfOk r (λ ty. (p : List ℕ → Bool) → DecidesPatterns p → data_type ty ≡ one p)
    → IfOk r (λ ty. (p : List ℕ → Bool) → DecidesPatterns p → data_type ty ≡ other p)
same_type (Ok ty) one other same is = λ p decides. is p decides ∙ same p
same_type (Err m) one other same is = tt

pub returns : goal.returns
returns c =
    let modules = c.args.names.now in
    same_type c.build.result _ _
    (λ is_pattern.
    ap (λ vs. built is_pattern modules (map visited vs) []) (c.as_slice.ensures.value ∙ c.reverse.ensures.items)
    ∙ ap (λ vs. built is_pattern modules vs []) (sym (reverse-map visited c.in_ok-found.found.items))
    ∙ sym (c.in_ok-found.ensures is_pattern))
    c.build.ensures
