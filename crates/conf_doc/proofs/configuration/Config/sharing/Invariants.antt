use Rattle.std.proofs.Common.{◌≡◌}
use Rattle.conf_doc.proofs.configuration.Config.sharing.Given as goal

abbrev pub invariant-loop-i : goal.invariant-loop-i
invariant-loop-i l = l.made ≡ l.self
