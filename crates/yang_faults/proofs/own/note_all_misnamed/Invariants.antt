use Rattle.std.proofs.Common.{◌≡◌, map, take}
use Rattle.std.specs.List.{flat_map}
use Rattle.yang_text.specs.Statements.{declaration}
use Rattle.yang_scope.specs.Faults.{least_of}
use Rattle.yang_faults.specs.Own.{misnamed}
use Rattle.yang_faults.proofs.own.note_all_misnamed.Given as goal

abbrev pub invariant-loop-statement : goal.invariant-loop-statement
invariant-loop-statement l =
    l.least ≡ least_of l.initial.least (flat_map (misnamed l.file l.name) (map declaration (take l.statement-index l.statements)))
