use Rattle.std.proofs.Common.{map, take}
use Rattle.yang_faults.specs.Keys.{name_in_key}
use Rattle.yang_scope.specs.Pieces.{texts}
use Rattle.yang_faults.specs.NameSets.{NotesGiven}
use Rattle.yang_faults.proofs.keys.note_named_twice.Given as goal

abbrev pub invariant-loop-name : goal.invariant-loop-name
invariant-loop-name l =
    NotesGiven l.initial.least l.least l.initial.set l.set (map (name_in_key l.file l.line) (texts (take l.name-index l.names)))
