use Rattle.std.proofs.Common.{◌≡◌, ℕ, List, Option, take}
use Rattle.std.specs.List.{flat_map}
use Rattle.xpath_part.specs.Expression.{Expression}
use Rattle.yang_scope.specs.Faults.{least_of}
use Rattle.yang_text.specs.Statements.{declaration}
use Rattle.yang_must.specs.Musts.{ReadsExpressions, if_must}
use Rattle.yang_must.specs.SpotRefs.{spot_at}
use Rattle.yang_must.proofs.must_faults.note_musts_in.Given as goal

abbrev pub invariant-loop-inner : goal.invariant-loop-inner
invariant-loop-inner l = (read : List ℕ → Option Expression) → ReadsExpressions read
    → l.least ≡ least_of l.fn.least (flat_map (λ s. if_must read l.tree l.owner (spot_at l.spot) (declaration s)) (take l.inner-index l.inner-items))
