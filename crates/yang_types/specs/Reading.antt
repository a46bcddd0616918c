-- What a text is read as, where the number has room.
use Rattle.std.specs.Prelude.{◌≡◌, ℕ, ℤ, List, Option, MatchOption, FitsSigned}
use Rattle.std.specs.Int.{w128}
use Rattle.yang_types.specs.Numbers.{IsNumber}

-- the number that the text is, or None where it is no number of 128 bits
abbrev pub IsReading : List ℕ → Option ℤ → Type 0
IsReading s reading =
    MatchOption reading
    ((value : ℤ) → FitsSigned w128 value → ¬ (IsNumber s value))
    (λ value. IsNumber s value × ((other : ℤ) → IsNumber s other → other ≡ value))
