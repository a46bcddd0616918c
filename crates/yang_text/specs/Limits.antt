-- The limit of a text.
use Rattle.std.specs.Prelude.{ℕ}

-- how many braces may be open at once
abbrev pub most_open : ℕ
most_open = 32
