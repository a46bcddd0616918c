use Rattle.std.proofs.Common.{rules, List, map, take, subst, sym}
use Rattle.yang_scope.specs.Paths.{Placed}
use Rattle.yang_values.specs.Walks.{placed, IsAdded}
use Rattle.yang_values.proofs.ReachableTypes.{added_more, mapped_more}
use Rattle.yang_values.proofs.circles.push_new.Goals as goal

pub loop-other-preserved : goal.loop-other-preserved
loop-other-preserved c =
    subst (λ (qs : List Placed). IsAdded (map placed c.args.places.now.items.items) qs (map placed c.push_if_new.new.places.items.items))
    (sym (mapped_more placed c.args.others.now c.loop-other.other-index c.other-item.result (search rules) c.other-item.is))
    (added_more (map placed c.args.places.now.items.items) (map placed (take c.loop-other.other-index c.args.others.now)) (map placed c.loop-other.places.items.items) (map placed c.push_if_new.new.places.items.items) (placed c.other-item.result)
    c.loop-other.invariant c.in_ok-push_if_new.ensures)
