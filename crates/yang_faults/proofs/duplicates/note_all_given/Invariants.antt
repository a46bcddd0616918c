use Rattle.std.proofs.Common.{map, take}
use Rattle.std.specs.List.{flat_map}
use Rattle.yang_text.specs.Statements.{declaration}
use Rattle.yang_faults.specs.Duplicates.{given_by}
use Rattle.yang_faults.specs.Entries.{needed}
use Rattle.yang_faults.specs.NameSets.{NotesGiven}
use Rattle.yang_faults.proofs.duplicates.note_all_given.Given as goal

abbrev pub invariant-loop-statement : goal.invariant-loop-statement
invariant-loop-statement l =
    NotesGiven l.initial.least l.least l.initial.set l.set (flat_map (given_by l.file (needed l.need)) (map declaration (take l.statement-index l.statements)))
