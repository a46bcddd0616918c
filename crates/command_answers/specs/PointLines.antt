-- The lines of checkpoints.
use Rattle.std.specs.Prelude.{ℕ, List, [], ◌∷◌, ◌++◌, codes, decimal, Option, Some, None}
use Rattle.gcu_output.specs.Lines.{line_feed, space}

-- the number of a checkpoint, or that its file is of no format
abbrev pub number_or_broken : Option ℕ → List ℕ
number_or_broken None = codes "broken"
number_or_broken (Some n) = decimal n

-- its name, and its number
abbrev pub named_number : List ℕ × Option ℕ → List ℕ
named_number p = p.0 ++ space ++ number_or_broken p.1

-- a line each
abbrev pub point_lines : List (List ℕ × Option ℕ) → List ℕ
point_lines [] = []
point_lines (p ∷ ps) = (named_number p ++ line_feed) ++ point_lines ps
