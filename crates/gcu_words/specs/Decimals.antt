-- The numbers that digits write.
use Rattle.std.specs.Prelude.{ℕ, List, [], ◌∷◌, ◌&&◌, ◌==◌, if◌then◌else◌, nat_le, Option, Some, None}
use Rattle.std.specs.Char.{is_ascii_digit}
use Rattle.std.specs.List.{list_all}
use Rattle.host_core.specs.Characters.{digit_zero}
use Rattle.patch_core.specs.Indexes.{number}

-- the number that digits write, where it is no greater than that
abbrev pub number_within : (most : ℕ) → List ℕ → Option ℕ
number_within most digits =
    if list_all is_ascii_digit digits && nat_le (number digits) most
    then Some (number digits)
    else None

-- the same of digits without leading zeros
abbrev pub decimal_within : (most : ℕ) → List ℕ → Option ℕ
decimal_within most [] = None
decimal_within most (d ∷ []) = number_within most (d ∷ [])
decimal_within most (d ∷ e ∷ ds) =
    if d == digit_zero then None else number_within most (d ∷ e ∷ ds)
