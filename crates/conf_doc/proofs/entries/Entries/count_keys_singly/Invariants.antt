use Rattle.std.proofs.Common.{◌+◌}
use Rattle.conf_doc.specs.Blocks.{AreSame, keys_of}
use Rattle.conf_doc.proofs.entries.Entries.count_keys_singly.Given as goal

abbrev pub invariant-loop-k : goal.invariant-loop-k
invariant-loop-k l = AreSame (keys_of l.self) l.i (keys_of l.other) l.j l.k
