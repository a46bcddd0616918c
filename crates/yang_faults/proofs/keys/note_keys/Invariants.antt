use Rattle.std.proofs.Common.{◌≡◌, map, take}
use Rattle.std.specs.List.{flat_map}
use Rattle.yang_text.specs.Statements.{declaration}
use Rattle.yang_scope.specs.Faults.{least_of}
use Rattle.yang_faults.specs.Keys.{leaf_name, key_statement_faults}
use Rattle.yang_faults.proofs.keys.note_keys.Given as goal

abbrev pub invariant-loop-statement : goal.invariant-loop-statement
invariant-loop-statement l =
    l.least ≡ least_of l.initial.least
    (flat_map (key_statement_faults l.file (flat_map leaf_name (map declaration l.statements))) (map declaration (take l.statement-index l.statements)))
