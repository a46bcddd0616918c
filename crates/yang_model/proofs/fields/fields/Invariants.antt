use Rattle.std.proofs.Common.{map, take}
use Rattle.std.specs.List.{flat_map}
use Rattle.yang_text.specs.Statements.{declaration}
use Rattle.yang_scope.specs.Pieces.{texts}
use Rattle.yang_model.specs.Readers.{Gives}
use Rattle.yang_model.specs.Leaves.{stored, field_at}
use Rattle.yang_model.proofs.fields.fields.Given as goal

abbrev pub invariant-loop-statement : goal.invariant-loop-statement
invariant-loop-statement l = Gives l.rules (λ readers. flat_map (field_at stored l.names readers l.number (texts l.keys)) (map declaration (take l.statement-index l.statement-items)))
