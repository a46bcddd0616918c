use Rattle.std.proofs.Common.{inr, refl}
use Rattle.yang_pattern.proofs.Scanning.{whole_begins}
use Rattle.yang_pattern.proofs.faults.Scan.last_whole.Goals as goal

pub returns-in-Outside : goal.returns-in-Outside
returns-in-Outside c = inr (refl, λ cs is. whole_begins cs c.args.self.now c.if-self.false c.in-Outside.is is)
