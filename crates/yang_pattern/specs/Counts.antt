-- The numbers of a quantifier, letter by letter.
use Rattle.std.specs.Prelude.{ℕ, ◌+◌, ◌-◌, ◌*◌, ◌==◌, ◌&&◌, nat_le, Option, Some, None, option_map, if◌then◌else◌}
use Rattle.host_core.specs.Characters.{comma, decimal_base, digit_nine, digit_zero}
use Rattle.yang_pattern.specs.declared.letters.Letter.{Letter}
use Rattle.yang_pattern.specs.declared.symbols.Quantifier.{Quantifier}
use Rattle.yang_pattern.specs.declared.symbols.Quantifier.TheVariants.{AtLeast, Between}
use Rattle.yang_pattern.specs.declared.counts.OpenCount.{OpenCount}
use Rattle.yang_pattern.specs.declared.counts.OpenCount.TheVariants.{First, Second}
use Rattle.yang_pattern.specs.Limits.{greatest_count}

-- a decimal with one digit more: no leading zero, and at most 255
abbrev pub with_digit : Option ℕ → ℕ → Option ℕ
with_digit None d = Some d
with_digit (Some n) d =
    if n == 0 then None
    else if nat_le (n * decimal_base + d) greatest_count then Some (n * decimal_base + d)
    else None

-- a comma, behind the first number
abbrev pub count_comma : OpenCount → Option OpenCount
count_comma (First None) = None
count_comma (First (Some n)) = Some (Second n None)
count_comma (Second n m) = None

-- a digit of the number that is open
abbrev pub count_digit : OpenCount → ℕ → Option OpenCount
count_digit (First n) d = option_map (λ k. First (Some k)) (with_digit n d)
count_digit (Second n m) d = option_map (λ k. Second n (Some k)) (with_digit m d)

-- a letter other than the closing brace
abbrev pub count_with : OpenCount → Letter → Option OpenCount
count_with k l =
    if l.escaped then None
    else if l.character == comma then count_comma k
    else if nat_le digit_zero l.character && nat_le l.character digit_nine
    then count_digit k (l.character - digit_zero)
    else None

-- the closing brace
abbrev pub count_close : OpenCount → Option Quantifier
count_close (First None) = None
count_close (First (Some n)) = Some (Between n 0)
count_close (Second n None) = Some (AtLeast n)
count_close (Second n (Some m)) = if nat_le n m then Some (Between n (m - n)) else None
