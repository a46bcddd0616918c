use Rattle.std.proofs.Common.{map, take}
use Rattle.std.specs.List.{flat_map}
use Rattle.yang_text.specs.Statements.{declaration}
use Rattle.yang_model.specs.Readers.{Gives}
use Rattle.yang_model.specs.Shapes.{musts_at}
use Rattle.yang_model.proofs.musts.musts.Given as goal

abbrev pub invariant-loop-statement : goal.invariant-loop-statement
invariant-loop-statement l =
    Gives l.rules (λ readers. flat_map (musts_at l.tree readers l.container l.table l.shape) (map declaration (take l.statement-index l.statement-items)))
