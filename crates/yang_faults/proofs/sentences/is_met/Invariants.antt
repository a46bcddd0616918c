use Rattle.std.proofs.Common.{◌≡◌, false, take}
use Rattle.std.specs.List.{list_any}
use Rattle.std.specs.Str.{bytes_eq}
use Rattle.yang_faults.specs.Entries.{needed}
use Rattle.yang_faults.proofs.sentences.is_met.Given as goal

abbrev pub invariant-loop-statement : goal.invariant-loop-statement
invariant-loop-statement l = list_any (λ s. list_any (bytes_eq s.keyword) (needed l.need)) (take l.statement-index l.statements) ≡ false
