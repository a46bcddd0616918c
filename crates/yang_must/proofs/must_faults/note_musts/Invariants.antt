use Rattle.std.proofs.Common.{◌≡◌, ℕ, List, Option, take}
use Rattle.std.specs.List.{flat_map}
use Rattle.xpath_part.specs.Expression.{Expression}
use Rattle.yang_scope.specs.Faults.{least_of}
use Rattle.yang_must.specs.Musts.{ReadsExpressions, container_faults}
use Rattle.yang_must.proofs.must_faults.note_musts.Given as goal

abbrev pub invariant-loop-container : goal.invariant-loop-container
invariant-loop-container l = (read : List ℕ → Option Expression) → ReadsExpressions read
    → l.least ≡ least_of l.fn.least (flat_map (container_faults read l.tree) (take l.container-index l.container-items))
