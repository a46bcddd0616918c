-- Two words for being in one of the ranges.
use Rattle.std.proofs.Common.{◌≡◌, ℕ, List, [], ◌∷◌, refl, ap, ◌||◌, ◌&&◌, leb}
use Rattle.regex_class.specs.Ranges.{in_ranges as has_ranges, in_range}
use Rattle.yang_pattern.specs.Symbols.{in_ranges}

pub ranges_agree : (ranges : List (ℕ × ℕ)) (c : ℕ) → has_ranges ranges c ≡ in_ranges ranges c
unfolding has_ranges in_range
ranges_agree [] c = refl
ranges_agree (r ∷ rs) c = ap (λ b. (leb r.0 c && leb c r.1) || b) (ranges_agree rs c)
