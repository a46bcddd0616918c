use Rattle.svc_rules.proofs.TableServices.{AreTied}
use Rattle.svc_rules.proofs.services.tied_services.Given as goal

abbrev pub invariant-loop-i : goal.invariant-loop-i
invariant-loop-i l = AreTied l.table l.ties l.services l.i
