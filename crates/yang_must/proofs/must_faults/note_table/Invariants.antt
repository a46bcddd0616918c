use Rattle.std.proofs.Common.{◌≡◌, ℕ, List, Option, take}
use Rattle.std.specs.List.{flat_map}
use Rattle.xpath_part.specs.Expression.{Expression}
use Rattle.yang_scope.specs.Faults.{least_of}
use Rattle.yang_must.specs.Musts.{ReadsExpressions, shape_faults}
use Rattle.yang_must.proofs.must_faults.note_table.Given as goal

abbrev pub invariant-loop-shape : goal.invariant-loop-shape
invariant-loop-shape l = (read : List ℕ → Option Expression) → ReadsExpressions read
    → l.least ≡ least_of l.fn.least (flat_map (shape_faults read l.tree l.owner l.table) (take l.shape-index l.shape-items))
