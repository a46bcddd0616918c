use Rattle.recheck.proofs.SoleEntries.{mapped_some}
use Rattle.recheck.proofs.alone.has_entry.Goals as goal

pub returns : goal.returns
returns c = mapped_some _ c.entry.result _ c.is_some.result c.entry.ensures.entry c.is_some.ensures
