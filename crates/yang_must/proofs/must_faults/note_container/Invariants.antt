use Rattle.std.proofs.Common.{◌≡◌, ℕ, List, Option, take}
use Rattle.std.specs.List.{flat_map}
use Rattle.xpath_part.specs.Expression.{Expression}
use Rattle.yang_scope.specs.Faults.{least_of}
use Rattle.yang_must.specs.Musts.{ReadsExpressions, table_faults}
use Rattle.yang_must.proofs.must_faults.note_container.Given as goal

abbrev pub invariant-loop-table : goal.invariant-loop-table
invariant-loop-table l = (read : List ℕ → Option Expression) → ReadsExpressions read
    → l.least ≡ least_of l.fn.least (flat_map (table_faults read l.tree l.owner) (take l.table-index l.table-items))
