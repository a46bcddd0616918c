use Rattle.std.proofs.Common.{◌≡◌, ℕ, List, Option, take}
use Rattle.std.specs.List.{flat_map}
use Rattle.xpath_part.specs.Expression.{Expression}
use Rattle.yang_scope.specs.Faults.{least_of}
use Rattle.yang_text.specs.Statements.{declaration}
use Rattle.yang_must.specs.Musts.{ReadsExpressions, in_shape_faults}
use Rattle.yang_must.proofs.must_faults.note_shape.Given as goal

abbrev pub invariant-loop-statement : goal.invariant-loop-statement
invariant-loop-statement l = (read : List ℕ → Option Expression) → ReadsExpressions read
    → l.least ≡ least_of l.fn.least (flat_map (λ s. in_shape_faults read l.tree l.owner l.table l.shape (declaration s)) (take l.statement-index l.statement-items))
