-- The key of a list (RFC 7950, section 7.8.2), in a profile: one to eight names of its leaves.
use Rattle.std.specs.Prelude.{ℕ, ◌==◌, not, nat_lt, List, [], ◌∷◌, ◌++◌, map, filter, length, Option, Some, None, codes, if◌then◌else◌}
use Rattle.std.specs.List.{flat_map, list_any, slice_split}
use Rattle.std.specs.Option.{option_to_list}
use Rattle.std.specs.Str.{bytes_eq}
use Rattle.host_core.specs.Characters.{space}
use Rattle.yang_text.specs.Declarations.{Declaration, keyword, argument, line}
use Rattle.yang_text.specs.declared.errors.ModelWhy.TheVariants.{BadArgument, UnknownName, TooMany}
use Rattle.yang_scope.specs.declared.faults.Fault.{Fault}
use Rattle.yang_faults.specs.Duplicates.{Given, given_twice}
use Rattle.yang_faults.specs.Sentences.{fault_on}

-- how many names a key may have
abbrev pub most_key_leaves : ℕ
most_key_leaves = 8

-- those that hold something
abbrev pub non_empty : List (List ℕ) → List (List ℕ)
non_empty names = filter (λ name. not (length name == 0)) names

-- the names in a key: what stands between spaces
abbrev pub names_in : List ℕ → List (List ℕ)
names_in key = non_empty (slice_split (λ c. c == space) key)

-- BadArgument where there is no name, TooMany where there are more than eight
abbrev pub wrong_number : ℕ → ℕ → List (List ℕ) → List Fault
wrong_number file line [] = fault_on file line BadArgument ∷ []
wrong_number file line (name ∷ names) =
    if nat_lt most_key_leaves (length (name ∷ names)) then fault_on file line TooMany ∷ []
    else []

-- a name, and the fault that it is where the key gave it before
abbrev pub name_in_key : ℕ → ℕ → List ℕ → Given
name_in_key file line name = (name, fault_on file line BadArgument)

-- BadArgument: a name that the key gave before
abbrev pub named_twice : ℕ → ℕ → List (List ℕ) → List Fault
named_twice file line names = given_twice [] (map (name_in_key file line) names)

-- UnknownName: a name of no leaf of the list
abbrev pub unknown_leaf : ℕ → ℕ → List (List ℕ) → List ℕ → List Fault
unknown_leaf file line leaves name =
    if list_any (bytes_eq name) leaves then []
    else fault_on file line UnknownName ∷ []

-- what is wrong with a key of these names in a list of these leaves
abbrev pub key_faults : ℕ → ℕ → List (List ℕ) → List (List ℕ) → List Fault
key_faults file line leaves names =
    wrong_number file line names
    ++ (named_twice file line names
    ++ flat_map (unknown_leaf file line leaves) names)

-- where the key has an argument; where it has none, that is a fault of its own
abbrev pub key_text_faults : ℕ → ℕ → List (List ℕ) → Option (List ℕ) → List Fault
key_text_faults file line leaves None = []
key_text_faults file line leaves (Some key) = key_faults file line leaves (names_in key)

-- what is wrong with a statement of a list that is a key
abbrev pub key_statement_faults : ℕ → List (List ℕ) → Declaration → List Fault
key_statement_faults file leaves d =
    if bytes_eq (keyword d) (codes "key") then key_text_faults file (line d) leaves (argument d)
    else []

-- the name of a leaf
abbrev pub leaf_name : Declaration → List (List ℕ)
leaf_name d = if bytes_eq (keyword d) (codes "leaf") then option_to_list (argument d) else []

-- what is wrong with the keys of a list
abbrev pub keys_faults : ℕ → List Declaration → List Fault
keys_faults file ds = flat_map (key_statement_faults file (flat_map leaf_name ds)) ds
