use Rattle.move_core.specs.Contexts.{rulebook}
use Rattle.plan_check.proofs.FaultlessPlans.{no_fault}
use Rattle.plan_check.proofs.laws.plans_are_accepted.Goals as goal

pub returns : goal.returns
returns c = λ ctx start aim ms step why.
    no_fault (rulebook ctx) aim (λ cur m. c.listed_moves_are_defined.ensures.listed ctx cur aim m) start ms step why
