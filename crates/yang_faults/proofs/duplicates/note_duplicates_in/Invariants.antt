use Rattle.std.proofs.Common.{◌≡◌, map, take}
use Rattle.std.specs.List.{flat_map}
use Rattle.yang_text.specs.Statements.{declaration}
use Rattle.yang_faults.specs.Duplicates.{duplicates}
use Rattle.yang_faults.specs.Entries.{needed}
use Rattle.yang_scope.specs.Faults.{least_of}
use Rattle.yang_faults.proofs.duplicates.note_duplicates_in.Given as goal

abbrev pub invariant-loop-need : goal.invariant-loop-need
invariant-loop-need l =
    l.least ≡ least_of l.initial.least (flat_map (duplicates l.file (map declaration l.statements)) (map needed (take l.need-index l.need-items)))
