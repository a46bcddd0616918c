use Rattle.std.proofs.Common.{map}
use Rattle.move_core.specs.Kinds.{AreBefore}
use Rattle.move_rules.specs.Dependencies.{EntryKeeps}
use Rattle.move_rules.proofs.no_dependency.keys_keep.Given as goal

abbrev pub invariant-loop-i : goal.invariant-loop-i
invariant-loop-i l = AreBefore l.i (EntryKeeps l.models l.config l.other l.place l.index l.table) (map (λ e. e.0) l.entries)
