use Rattle.std.proofs.Common.{map, take}
use Rattle.std.specs.List.{flat_map}
use Rattle.yang_text.specs.Statements.{declaration}
use Rattle.yang_faults.specs.Files.{tables_of_container}
use Rattle.yang_faults.specs.NameSets.{NotesGiven}
use Rattle.yang_faults.proofs.files.note_module_tables.Given as goal

abbrev pub invariant-loop-inner : goal.invariant-loop-inner
invariant-loop-inner l =
    NotesGiven l.initial.least l.least l.initial.set l.set (flat_map (tables_of_container l.file) (map declaration (take l.inner-index l.inner-items)))
