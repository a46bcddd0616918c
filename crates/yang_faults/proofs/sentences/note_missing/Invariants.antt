use Rattle.std.proofs.Common.{◌≡◌, map, take}
use Rattle.std.specs.List.{flat_map}
use Rattle.yang_text.specs.Statements.{declaration}
use Rattle.yang_faults.specs.Entries.{needed}
use Rattle.yang_scope.specs.Faults.{least_of}
use Rattle.yang_faults.specs.Sentences.{missing_one}
use Rattle.yang_faults.proofs.sentences.note_missing.Given as goal

abbrev pub invariant-loop-need : goal.invariant-loop-need
invariant-loop-need l =
    l.least ≡ least_of l.initial.least (flat_map (missing_one l.file l.line (map declaration l.statements)) (map needed (take l.need-index l.need-items)))
