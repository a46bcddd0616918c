use Rattle.std.proofs.Common.{refl, arith}
use Rattle.plan_check.specs.Touching.{names_at}
use Rattle.plan_check.proofs.TouchedWants.{goes_on}
use Rattle.plan_check.proofs.rules.is_below.Goals as goal

pub returns : goal.returns
returns c = (λ _. goes_on c.args.place.now (names_at c.args.at.now) (λ i below. c.loop-i.invariant i (omega arith)), λ _. refl)
