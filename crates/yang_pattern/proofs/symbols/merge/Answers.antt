use Rattle.std.proofs.Common.{◌∙◌, ap, List, ℕ}
use Rattle.regex_class.specs.Ranges.{in_ranges as has_ranges}
use Rattle.yang_pattern.proofs.Merging.{ranges_agree}
use Rattle.yang_pattern.proofs.symbols.merge.Goals as goal

pub returns : goal.returns
returns c = λ d small.
    c.in_ok-from_ranges.ensures d small
    ∙ (ap (λ (rs : List (ℕ × ℕ)). has_ranges rs d) c.deref.ensures.value
    ∙ ranges_agree c.args.ranges.now.items d)
