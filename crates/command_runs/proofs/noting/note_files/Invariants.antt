use Rattle.std.proofs.Common.{◌≡◌, map}
use Rattle.std.specs.Map.Iter.{deref_pair}
use Rattle.host_core.specs.Entries.{named}
use Rattle.command_runs.proofs.noting.note_files.Given as goal

abbrev pub invariant-loop-name : goal.invariant-loop-name
invariant-loop-name l = l.noted ≡ map (λ e. named (deref_pair e)) l.yielded
