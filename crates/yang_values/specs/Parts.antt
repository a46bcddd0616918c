-- Lengths and ranges: parts joined by `|`, of one bound or of two joined by `..` (RFC 7950,
-- sections 9.2.4 and 9.4.4).
use Rattle.std.specs.Prelude.{ℕ, ℤ, int_le, ◌==◌, List, [], ◌∷◌, length, Option, Some, None, codes, if◌then◌else◌}
use Rattle.std.specs.Int.{int_max, int_min}
use Rattle.std.specs.List.{fold, flat_map}
use Rattle.std.specs.Option.{option_to_list}
use Rattle.std.specs.Str.{bytes_eq}
use Rattle.host_core.specs.Characters.{bar, full_stop}
use Rattle.yang_scope.specs.Pieces.{pieces}
use Rattle.yang_types.specs.declared.types.Bounds.{Bounds}
use Rattle.yang_values.specs.Numbers.{bound_number}

-- the lower one of a number so far and the bounds of a part
abbrev pub lower : Option ℤ → Bounds → Option ℤ
lower None b = Some b.low
lower (Some n) b = Some (int_min n b.low)

-- the least value within some parts
abbrev pub lowest : List Bounds → Option ℤ
lowest parts = fold lower None parts

-- the higher one of a number so far and the bounds of a part
abbrev pub higher : Option ℤ → Bounds → Option ℤ
higher None b = Some b.high
higher (Some n) b = Some (int_max n b.high)

-- the greatest value within some parts
abbrev pub highest : List Bounds → Option ℤ
highest parts = fold higher None parts

-- from one number to another that is not below it
abbrev pub between : Option ℤ → Option ℤ → Option Bounds
between None high = None
between (Some low) None = None
between (Some low) (Some high) =
    if int_le low high then Some (record { low = low; high = high }) else None

-- min and max stand for the least and the greatest of the values that the restricted type accepts
abbrev pub bound : List Bounds → List ℕ → Option ℤ
bound values s =
    if bytes_eq s (codes "min") then lowest values
    else if bytes_eq s (codes "max") then highest values
    else bound_number s

-- a bound, or a bound, nothing between two dots, and a bound
abbrev pub part_of : List Bounds → List (List ℕ) → Option Bounds
part_of values (a ∷ []) = between (bound values a) (bound values a)
part_of values (a ∷ b ∷ c ∷ []) =
    if length b == 0 then between (bound values a) (bound values c) else None
part_of values _ = None

-- a part of a length or a range
abbrev pub part : List Bounds → List ℕ → Option Bounds
part values s = part_of values (pieces full_stop s)

-- one more, where both are there
abbrev pub with_next : {X : Type 0} → Option X → Option (List X) → Option (List X)
with_next None xs = None
with_next (Some x) None = None
with_next (Some x) (Some xs) = Some (x ∷ xs)

-- what each element gives, where each gives something
abbrev pub all_given : {X Y : Type 0} → (X → Option Y) → List X → Option (List Y)
all_given f [] = Some []
all_given f (x ∷ xs) = with_next (f x) (all_given f xs)

-- the parts of a length or a range, where it is one
abbrev pub parts : List Bounds → List ℕ → Option (List Bounds)
parts values s = all_given (part values) (pieces bar s)

-- what two parts have in common
abbrev pub common_part : Bounds → Bounds → Option Bounds
common_part a b = between (Some (int_max a.low b.low)) (Some (int_min a.high b.high))

-- what some parts have in common with one
abbrev pub common_with : List Bounds → Bounds → List Bounds
common_with ys a = flat_map (λ b. option_to_list (common_part a b)) ys

-- what some parts have in common with others
abbrev pub common : List Bounds → List Bounds → List Bounds
common xs ys = flat_map (common_with ys) xs
