-- A patch over several scopes, scope by scope.
use Rattle.std.specs.Prelude.{ℕ, Bool, false, not, if◌then◌else◌, List, [], ◌∷◌, map, filter, drop, Option, Some, None, Result, Ok, Err}
use Rattle.std.specs.List.{list_all, list_any, position}
use Rattle.std.specs.Option.{option_map_or}
use Rattle.std.specs.Str.{bytes_eq}
use Rattle.patch_core.specs.Operation.{Tokens, Operation, add, remove, replace, move_to, copy_to, test, operations}
use Rattle.scopes.specs.Scopes.{all_scopes, scope_name}
use Rattle.scopes.specs.declared.errors.SplitError.{SplitError}
use Rattle.scopes.specs.declared.errors.SplitError.TheVariants.{BadScope, Memory}
use Rattle.scopes.specs.declared.scope.Scope.{Scope}
use Rattle.scopes.specs.declared.splitting.Scoped.{Scoped}

-- ---- one operation

-- the path of an operation
abbrev pub path_in : Operation → Tokens
path_in (add path value) = path
path_in (remove path) = path
path_in (replace path value) = path
path_in (move_to from path) = path
path_in (copy_to from path) = path
path_in (test path value) = path

-- its `from`, where it has one
abbrev pub from_in : Operation → List Tokens
from_in (move_to from path) = from ∷ []
from_in (copy_to from path) = from ∷ []
from_in other = []

-- whether a name is the first token
abbrev pub begins_with : List ℕ → Tokens → Bool
begins_with name [] = false
begins_with name (token ∷ tokens) = bytes_eq token name

-- whether each pointer of an operation begins with a name
abbrev pub is_under : List ℕ → Operation → Bool
is_under name op = list_all (begins_with name) (path_in op ∷ from_in op)

-- whether an operation is in a scope
abbrev pub is_in : Scope → Operation → Bool
is_in scope op = is_under (scope_name scope) op

-- whether it is in one of the scopes
abbrev pub has_scope : Operation → Bool
has_scope op = list_any (λ scope. is_in scope op) all_scopes

-- the operation with the first token of its pointers taken away
abbrev pub below : Operation → Operation
below (add path value) = add (drop 1 path) value
below (remove path) = remove (drop 1 path)
below (replace path value) = replace (drop 1 path) value
below (move_to from path) = move_to (drop 1 from) (drop 1 path)
below (copy_to from path) = copy_to (drop 1 from) (drop 1 path)
below (test path value) = test (drop 1 path) value

-- ---- a patch

-- a scope, and the operations in it
abbrev pub Part : Type 0
Part = Scope × List Operation

-- the operations in a scope, in order
abbrev pub operations_in : Scope → List Operation → List Operation
operations_in scope ops = map below (filter (is_in scope) ops)

-- the scopes that the operations are in, in order
abbrev pub scopes_of : List Operation → List Scope
scopes_of ops = filter (λ scope. list_any (is_in scope) ops) all_scopes

-- the part of a scope, where an operation is in it
abbrev pub part_if_any : Scope → List Operation → List Part
part_if_any scope ops =
    if list_any (is_in scope) ops then (scope, operations_in scope ops) ∷ [] else []

-- the operations, scope by scope
abbrev pub parts : List Operation → List Part
parts ops = map (λ scope. (scope, operations_in scope ops)) (scopes_of ops)

-- the same where each operation has a scope, or the first one that has none
abbrev pub split : List Operation → Result (List Part) SplitError
split ops =
    option_map_or (λ index. Err (BadScope index)) (position (λ op. not (has_scope op)) ops)
    (Ok (parts ops))

-- what a part of a patch is
abbrev pub part_of : Scoped → Part
part_of scoped = (scoped.scope, operations scoped.patch)

-- the fault that an error tells, or none for want of memory
abbrev pub split_fault : SplitError → Option SplitError
split_fault (BadScope index) = Some (BadScope index)
split_fault Memory = None
