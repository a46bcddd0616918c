use Rattle.std.proofs.Common.{◌≡◌, drop}
use Rattle.patch_core.specs.Apply.{leads_into}
use Rattle.patch_core.proofs.walks.leads_into.Given as goal

abbrev pub invariant-loop-i : goal.invariant-loop-i
invariant-loop-i l = leads_into (drop l.i l.from) (drop l.i l.path) ≡ leads_into l.from l.path
