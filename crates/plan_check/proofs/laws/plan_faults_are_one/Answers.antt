use Rattle.move_core.specs.Contexts.{rulebook}
use Rattle.plan_check.proofs.OneFault.{faults_same}
use Rattle.plan_check.proofs.laws.plan_faults_are_one.Goals as goal

pub returns : goal.returns
returns c = λ ctx start aim ms step other why also.
    faults_same (rulebook ctx) aim (λ cur m. c.listed_moves_are_defined.ensures.listed ctx cur aim m) start ms step other why also
