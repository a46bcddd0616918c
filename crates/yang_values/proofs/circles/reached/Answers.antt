use Rattle.std.proofs.Common.{rules, ◌≡◌, ◌∙◌, length, map, get_or, ap, subst, arith, List}
use Rattle.yang_scope.specs.Paths.{Placed}
use Rattle.yang_values.specs.Walks.{placed, IsAdded}
use Rattle.yang_values.specs.declared.walks.Place.{Place}
use Rattle.yang_values.proofs.EqualStatements.{length-map}
use Rattle.yang_values.proofs.ReachableTypes.{reached_first, reached_more, reached_end, get_or-mapped}
use Rattle.yang_values.proofs.circles.reached.Goals as goal

pub loop-i-init : goal.loop-i-init
loop-i-init c =
    let first : List Placed = map placed c.as_slice.result.now in
    let from : List Placed → Type 0 = λ qs. IsAdded qs first (map placed c.push_new.new.places.items.items) in
    reached_first c.args.names.now (placed c.args.place) first (map placed c.push_new.new.places.items.items)
    (ap (map placed) c.as_slice.ensures.value ∙ c.in_ok-first.ensures)
    (subst from (ap (map placed) c.new-places.ensures) c.in_ok-push_new.ensures)

pub returns-then-i-len : goal.returns-then-i-len
returns-then-i-len c =
    let len : length c.loop-i.places.items.items ≡ c.len.result = search rules in
    reached_end c.args.names.now c.loop-i.i (placed c.args.place) (map placed c.loop-i.places.items.items) (omega (arith, length-map placed c.loop-i.places.items.items)) c.loop-i.invariant

pub loop-i-preserved : goal.loop-i-preserved
loop-i-preserved c =
    let len : length c.loop-i.places.items.items ≡ c.len.result = search rules in
    let r : Place = c.index.result.now in
    let is : r ≡ get_or c.loop-i.places.items.items c.loop-i.i r = search rules in
    reached_more c.args.names.now c.loop-i.i (placed c.args.place) (placed r) (map placed c.loop-i.places.items.items) (map placed c.as_slice-in-loop-i.result.now) (map placed c.push_new-in-loop-i.new.places.items.items)
    (omega (arith, length-map placed c.loop-i.places.items.items)) (get_or-mapped placed c.loop-i.places.items.items c.loop-i.i r (placed c.args.place) (omega arith) is)
    (ap (map placed) c.as_slice-in-loop-i.ensures.value ∙ c.in_ok-others.ensures)
    c.loop-i.invariant c.in_ok-push_new-2.ensures
