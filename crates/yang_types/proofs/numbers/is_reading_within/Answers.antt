use Rattle.std.proofs.Common.{rules}
use Rattle.std.specs.Prelude.{FitsSigned}
use Rattle.std.specs.Int.{w128}
use Rattle.yang_types.proofs.NumberLemmas.{none_within}
use Rattle.yang_types.proofs.numbers.is_reading_within.Goals as goal

pub returns-in-None : goal.returns-in-None
returns-in-None c =
    let low : FitsSigned w128 c.args.bounds.now.low = search rules in
    let high : FitsSigned w128 c.args.bounds.now.high = search rules in
    λ s r. (λ t. absurd (cc), λ n. absurd (none_within s c.args.bounds.now low high (rw c.in-None.is at r) n))
