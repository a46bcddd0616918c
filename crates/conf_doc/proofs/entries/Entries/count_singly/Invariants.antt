use Rattle.std.proofs.Common.{◌+◌}
use Rattle.conf_doc.specs.Blocks.{AreSame}
use Rattle.conf_doc.proofs.entries.Entries.count_singly.Given as goal

abbrev pub invariant-loop-k : goal.invariant-loop-k
invariant-loop-k l = AreSame l.self l.i l.other l.j l.k
