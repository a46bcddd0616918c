use Rattle.std.proofs.Common.{◌≡◌, ◌==◌, ◌<◌, ℕ, List, [], ◌∷◌, Bool, false, length, arith}
use Rattle.gcu_words.specs.Options.{most_budget}
use Rattle.gcu_words.proofs.Decimals.{counts}
use Rattle.gcu_words.proofs.budgets.read_budget.Goals as goal

not_empty : (ds : List ℕ) (b : Bool) → b ≡ (length ds == 0) → b ≡ false → 0 < length ds
not_empty [] b is none = absurd cc
not_empty (d ∷ ds) b is none = omega arith

pub returns-clause-some : goal.returns-clause-some
returns-clause-some c =
    counts most_budget c.args.digits.now c.number_within.result c.number_within.ensures.number (not_empty c.args.digits.now c.is_empty.result c.is_empty.ensures c.if-is_empty.false) c.if-digits-eq48.false
