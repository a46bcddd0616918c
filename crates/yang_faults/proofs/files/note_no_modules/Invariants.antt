use Rattle.std.proofs.Common.{◌≡◌, map, take}
use Rattle.std.specs.List.{flat_map}
use Rattle.yang_text.specs.Statements.{declaration}
use Rattle.yang_scope.specs.Faults.{least_of}
use Rattle.yang_faults.specs.Files.{no_module}
use Rattle.yang_faults.proofs.files.note_no_modules.Given as goal

abbrev pub invariant-loop-statement : goal.invariant-loop-statement
invariant-loop-statement l = l.least ≡ least_of l.initial.least (flat_map (no_module l.file) (map declaration (take l.statement-index l.statements)))
