use Rattle.std.proofs.Common.{◌++◌, map, take}
use Rattle.std.specs.List.{flat_map}
use Rattle.yang_text.specs.Statements.{declaration}
use Rattle.yang_must.specs.SpotRefs.{spot_at}
use Rattle.yang_model.specs.Readers.{Gives}
use Rattle.yang_model.specs.Shapes.{must_at}
use Rattle.yang_model.proofs.musts.push_musts.Given as goal

abbrev pub invariant-loop-statement : goal.invariant-loop-statement
invariant-loop-statement l =
    Gives l.musts (λ readers. l.fn.musts ++ flat_map (must_at l.tree readers l.number l.leaf (spot_at l.spot)) (map declaration (take l.statement-index l.statements)))
