-- The leaves of a list or a fixed container that are no key leaves (RFC 7950, section 7.6).
use Rattle.std.specs.Prelude.{ℕ, ◌&&◌, not, Bool, false, List, [], ◌∷◌, Option, Some, None, option_and_then, codes, if◌then◌else◌}
use Rattle.std.specs.List.{find, list_any}
use Rattle.std.specs.Option.{option_map_or}
use Rattle.std.specs.Str.{bytes_eq}
use Rattle.yang_text.specs.Declarations.{Declaration, keyword, argument, block}
use Rattle.yang_text.specs.declared.errors.ModelWhy.TheVariants.{BadArgument}
use Rattle.yang_scope.specs.Faults.{fault_at}
use Rattle.yang_scope.specs.declared.faults.Fault.{Fault}
use Rattle.yang_faults.specs.Keys.{names_in}

-- the first statement of a keyword, which is the one that is meant where there are several
abbrev pub first_of : List ℕ → List Declaration → Option Declaration
first_of name ds = find (λ d. bytes_eq (keyword d) name) ds

-- its argument
abbrev pub first_argument : List ℕ → List Declaration → Option (List ℕ)
first_argument name ds = option_and_then argument (first_of name ds)

-- the names that the key of a list gives
abbrev pub key_names : List Declaration → List (List ℕ)
key_names ds = option_map_or names_in (first_argument (codes "key") ds) []

-- a name that the key gives
abbrev pub is_key_leaf : List (List ℕ) → Option (List ℕ) → Bool
is_key_leaf keys None = false
is_key_leaf keys (Some name) = list_any (bytes_eq name) keys

-- `mandatory true`
abbrev pub is_mandatory : List Declaration → Bool
is_mandatory ds =
    option_map_or (λ s. bytes_eq s (codes "true")) (first_argument (codes "mandatory") ds) false

-- BadArgument at a default, where there is one and none may be
abbrev pub default_fault : ℕ → Bool → Option Declaration → List Fault
default_fault file wrong None = []
default_fault file wrong (Some d) = if wrong then fault_at file BadArgument d ∷ [] else []

-- a mandatory leaf has no default
abbrev pub mandatory_default : ℕ → List Declaration → List Fault
mandatory_default file ds =
    default_fault file (is_mandatory ds) (first_of (codes "default") ds)

-- of a leaf that the key doesn't name
abbrev pub field_faults : ℕ → List (List ℕ) → Declaration → List Fault
field_faults file keys d =
    if bytes_eq (keyword d) (codes "leaf") && not (is_key_leaf keys (argument d))
    then mandatory_default file (block d)
    else []
