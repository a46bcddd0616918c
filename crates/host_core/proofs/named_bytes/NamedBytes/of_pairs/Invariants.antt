use Rattle.std.proofs.Common.{◌≡◌, vec_len}
use Rattle.host_core.specs.MemoryHost.{files_of}
use Rattle.host_core.proofs.EntriesOfFiles.{with_pairs}
use Rattle.host_core.proofs.named_bytes.NamedBytes.of_pairs.Given as goal

abbrev pub invariant-loop-name : goal.invariant-loop-name
invariant-loop-name l = with_pairs l.pairs.items l.all ≡ files_of l.fn.pairs.items

abbrev pub decreases-loop-name : goal.decreases-loop-name
decreases-loop-name l = vec_len l.pairs
