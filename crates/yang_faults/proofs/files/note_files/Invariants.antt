use Rattle.std.proofs.Common.{◌≡◌, map, take}
use Rattle.yang_scope.specs.Faults.{least_of}
use Rattle.yang_faults.specs.Files.{in_files, file_faults}
use Rattle.yang_faults.proofs.files.note_files.Given as goal

abbrev pub invariant-loop-i : goal.invariant-loop-i
invariant-loop-i l = l.least ≡ least_of l.initial.least (in_files file_faults 0 (map (λ f. f.1) (take l.i l.files)))
