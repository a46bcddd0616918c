-- Ranges of characters in order, of which those that touch are one.
use Rattle.std.specs.Prelude.{ℕ, List, Option, Some, None, ⊤}
use Rattle.regex_class.specs.declared.Class.{Class}
use Rattle.regex_class.specs.Ranges.{HasExactly}
use Rattle.yang_pattern.specs.Symbols.{in_ranges}

-- the class, where there is one, has the characters that are in one of the ranges
abbrev pub IsMerged : List (ℕ × ℕ) → Option Class → Type 0
IsMerged ranges None = ⊤
IsMerged ranges (Some class) = HasExactly class.ranges.items (in_ranges ranges)
