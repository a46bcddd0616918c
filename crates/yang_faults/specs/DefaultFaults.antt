-- The defaults of leaves that their types don't take (RFC 7950, section 7.6.4).
use Rattle.std.specs.Prelude.{ℕ, ◌&&◌, not, List, [], Option, Some, None, codes, if◌then◌else◌}
use Rattle.std.specs.List.{flat_map}
use Rattle.std.specs.Str.{bytes_eq}
use Rattle.yang_text.specs.Declarations.{Declaration, keyword, argument, block}
use Rattle.yang_scope.specs.Modules.{Module}
use Rattle.yang_scope.specs.declared.faults.Fault.{Fault}
use Rattle.yang_values.specs.Defaults.{bad_default}
use Rattle.yang_values.specs.WrittenTypes.{written_type}
use Rattle.yang_faults.specs.Fields.{first_of, is_key_leaf}
use Rattle.yang_faults.specs.Tests.{Tests}

-- of a default and the type statement beside it, where both are there
abbrev pub bad_default_by : List Module → Tests → ℕ → ℕ → Option Declaration → Option Declaration
    → List Fault
bad_default_by modules tests file m None t = []
bad_default_by modules tests file m (Some d) None = []
bad_default_by modules tests file m (Some d) (Some t) =
    bad_default tests.accepts file (written_type tests.is_pattern modules m t) d

-- of a leaf with these statements
abbrev pub bad_default_in : List Module → Tests → ℕ → ℕ → List Declaration → List Fault
bad_default_in modules tests file m ds =
    bad_default_by modules tests file m (first_of (codes "default") ds) (first_of (codes "type") ds)

-- of a leaf that the key doesn't name
abbrev pub bad_default_at : List Module → Tests → ℕ → ℕ → List (List ℕ) → Declaration → List Fault
bad_default_at modules tests file m keys d =
    if bytes_eq (keyword d) (codes "leaf") && not (is_key_leaf keys (argument d))
    then bad_default_in modules tests file m (block d)
    else []

-- of the leaves of a list or a fixed container
abbrev pub bad_defaults : List Module → Tests → ℕ → ℕ → List (List ℕ) → List Declaration
    → List Fault
bad_defaults modules tests file m keys ds =
    flat_map (bad_default_at modules tests file m keys) ds
