use Rattle.std.proofs.Common.{take, All}
use Rattle.yang_model.specs.Belongs.{Fits}
use Rattle.yang_model.proofs.belonging.first_that_fits.Given as goal

abbrev pub invariant-loop-i : goal.invariant-loop-i
invariant-loop-i l = All (λ s. ¬ Fits s l.key) (take l.i l.shapes)
