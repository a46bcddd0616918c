-- The values that types accept by their lengths and ranges, along their typedefs (RFC 7950, sections
-- 7.3, 9.2.4 and 9.4.4): of a string its numbers of characters, of an integer type its numbers.
use Rattle.std.specs.Prelude.{ℕ, zero, suc, pos, ◌^◌, ◌||◌, Bool, false, List, [], ◌∷◌, Option, Some, None, codes, reverse, option_map, option_and_then, if◌then◌else◌}
use Rattle.std.specs.List.{fold}
use Rattle.std.specs.Option.{option_map_or}
use Rattle.yang_text.specs.Declarations.{Declaration, argument, block}
use Rattle.yang_types.specs.declared.types.Bounds.{Bounds}
use Rattle.yang_scope.specs.Meanings.{type_meaning, statement_at, base_of}
use Rattle.yang_scope.specs.Modules.{Module}
use Rattle.yang_scope.specs.Statements.{is_keyword, first_child}
use Rattle.yang_scope.specs.declared.bases.Base.{Base}
use Rattle.yang_scope.specs.declared.bases.Base.TheVariants.{Text, Number}
use Rattle.yang_scope.specs.declared.meanings.Meaning.{Meaning}
use Rattle.yang_scope.specs.declared.meanings.Meaning.TheVariants.{Ends, Goes, Nothing}
use Rattle.yang_values.specs.Limits.{least, greatest}
use Rattle.yang_values.specs.Parts.{parts, common}

-- more type statements than files can have
abbrev pub most_steps : ℕ
most_steps = 2 ^ 32

-- every number of 128 bits
abbrev pub all_numbers : Bounds
all_numbers = record { low = least; high = greatest }

-- what a base accepts
abbrev pub base_bounds : Option Base → Bounds
base_bounds (Some Text) = record { low = pos 0; high = greatest }
base_bounds (Some (Number b)) = b
base_bounds _ = all_numbers

-- a string is restricted by a length, a number by a range, and what has no base by both
abbrev pub is_restriction : Option Base → Declaration → Bool
is_restriction None d = is_keyword (codes "length") d || is_keyword (codes "range") d
is_restriction (Some Text) d = is_keyword (codes "length") d
is_restriction (Some (Number b)) d = is_keyword (codes "range") d
is_restriction (Some _) d = false

-- the parts of a length or a range of a type that accepts these values
abbrev pub parts_in : List Bounds → Declaration → Option (List Bounds)
parts_in values d = option_and_then (parts values) (argument d)

-- what a length or a range leaves of the values so far
abbrev pub values_left : Option Base → List Bounds → List Bounds → Declaration → List Bounds
values_left base values left d =
    if is_restriction base d then option_map_or (common left) (parts_in values d) left
    else left

-- what a type statement leaves of the values of the type that it restricts; a length or a range
-- that is none leaves all
abbrev pub values_by : Option Base → List Bounds → Declaration → List Bounds
values_by base values d = fold (values_left base values) values (block d)

-- the type statement of the typedef at a place of a module
abbrev pub typedef_type : List Module → ℕ → ℕ → Option Declaration
typedef_type modules m place =
    option_and_then (first_child (codes "type")) (statement_at modules m place)

-- the type statement of the typedef that a meaning is, and what that stands for
abbrev pub next_typedef : List Module → Meaning → Option (Declaration × Meaning)
next_typedef modules (Goes m place) =
    option_map (λ d. (d, type_meaning modules m (argument d))) (typedef_type modules m place)
next_typedef modules (Ends base) = None
next_typedef modules Nothing = None

-- the type statements of at most so many typedefs behind a meaning, the nearest first
unfoldable pub types_within : List Module → ℕ → Meaning → List Declaration
types_within modules zero meaning = []
types_within modules (suc most) meaning =
    option_map_or (λ t. t.0 ∷ types_within modules most t.1) (next_typedef modules meaning) []

-- what the typedefs behind a meaning leave of the values of their base, from the furthest one on
abbrev pub values_behind : List Module → Meaning → Option Base → List Bounds
values_behind modules meaning base =
    fold (values_by base) (base_bounds base ∷ [])
    (reverse (types_within modules most_steps meaning))

-- the values of a meaning; of what has no base nothing is known
abbrev pub values_of : List Module → Meaning → Option Base → List Bounds
values_of modules meaning None = all_numbers ∷ []
values_of modules meaning (Some base) = values_behind modules meaning (Some base)

-- the values of the type that a type statement of a module restricts
abbrev pub restricted_values : List Module → ℕ → Declaration → List Bounds
restricted_values modules m d =
    values_of modules (type_meaning modules m (argument d)) (base_of modules m (argument d))
