use Rattle.std.proofs.Common.{map, take}
use Rattle.yang_faults.specs.Files.{in_files, modules_given}
use Rattle.yang_faults.specs.NameSets.{NotesGiven}
use Rattle.yang_faults.proofs.files.note_modules_twice.Given as goal

abbrev pub invariant-loop-i : goal.invariant-loop-i
invariant-loop-i l = NotesGiven l.initial.least l.least l.initial.set l.set (in_files modules_given 0 (map (λ f. f.1) (take l.i l.files)))
