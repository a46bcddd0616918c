use Rattle.std.proofs.Common.{◌≡◌, [], map, take, if◌then◌else◌}
use Rattle.std.specs.List.{flat_map}
use Rattle.yang_text.specs.Statements.{declaration}
use Rattle.yang_faults.specs.Entries.{allowed}
use Rattle.yang_scope.specs.Faults.{least_of}
use Rattle.yang_faults.specs.Sentences.{repeated}
use Rattle.yang_faults.proofs.sentences.note_repeated_in.Given as goal

abbrev pub invariant-loop-entry : goal.invariant-loop-entry
invariant-loop-entry l =
    l.least ≡ least_of l.initial.least
    (flat_map (λ e. if e.single then repeated l.file e.keyword (map declaration l.statements) else []) (map allowed (take l.entry-index l.entry-items)))
