use Rattle.std.proofs.Common.{◌≡◌, ◌<◌, ◌≤◌, Bool, drop, length, map, min, slice_get, ◌+◌, ◌-◌, ◌^◌, IfSome}
use Rattle.xpath_part.specs.Detours.{finds}
use Rattle.xpath_part.specs.Expression.{weight, term_weight, path_weight, strides_weight, predicates_weight, strides_of, predicates_of}
use Rattle.xpath_part.specs.Expressions.{expression, term_of, path_of, step_of}
use Rattle.xpath_part.specs.Sought.{how_many, is_sought, sought_below, walk_of}
use Rattle.xpath_part.specs.Truth.{value, passes}
use Rattle.xpath_part.specs.declared.nodes.Node.{Node}
use Rattle.xpath_part.proofs.WaysBack.{Found}
use Rattle.xpath_part.proofs.Weights.{sought_weight}
use Rattle.xpath_part.proofs.truths.+truth.Given as goal

abbrev pub decreases-judge : goal.decreases-judge
decreases-judge g l = weight (expression l.expr.now)

abbrev pub decreases-stands : goal.decreases-stands
decreases-stands g l = term_weight (term_of l.operand.now)

abbrev pub decreases-compare : goal.decreases-compare
decreases-compare g l = term_weight (term_of l.left.now) + term_weight (term_of l.right.now)

abbrev pub decreases-compare_text : goal.decreases-compare_text
decreases-compare_text g l = term_weight (term_of l.right.now)

abbrev pub decreases-count_selected : goal.decreases-count_selected
decreases-count_selected g l = path_weight (path_of l.path.now) + sought_weight l.sought

abbrev pub decreases-count_along : goal.decreases-count_along
decreases-count_along g l = strides_weight (strides_of (map step_of l.steps.now)) + sought_weight l.sought

abbrev pub decreases-count_below : goal.decreases-count_below
decreases-count_below g l =
    predicates_weight (predicates_of (map expression l.tests.now)) + strides_weight (strides_of (map step_of l.rest.now)) + sought_weight l.sought + 1

abbrev pub decreases-count_child : goal.decreases-count_child
decreases-count_child g l =
    predicates_weight (predicates_of (map expression l.tests.now)) + strides_weight (strides_of (map step_of l.rest.now)) + sought_weight l.sought

abbrev pub decreases-pass : goal.decreases-pass
decreases-pass g l = predicates_weight (predicates_of (map expression l.tests.now))

abbrev pub decreases-count_node : goal.decreases-count_node
decreases-count_node g l = sought_weight l.sought

abbrev pub invariant-judge-loop-at : goal.invariant-judge-loop-at
invariant-judge-loop-at g l = let tree = g.N.Nodes.tree l.nodes in record {
  same : value tree l.current (expression l.at) l.context ≡ value tree l.current (expression l.fn.expr) l.context;
  within : weight (expression l.at) ≤ weight (expression l.fn.expr);
}

abbrev pub decreases-judge-loop-at : goal.decreases-judge-loop-at
decreases-judge-loop-at g l = weight (expression l.at)

abbrev pub invariant-pass-loop-test : goal.invariant-pass-loop-test
invariant-pass-loop-test g l = let tree = g.N.Nodes.tree l.nodes in
    passes tree l.current (predicates_of (map expression (drop l.test-index l.tests))) l.at ≡ passes tree l.current (predicates_of (map expression l.tests)) l.at

abbrev pub invariant-count_below-loop-next : goal.invariant-count_below-loop-next
invariant-count_below-loop-next g l =
    let tree = g.N.Nodes.tree l.nodes in
    let children = tree.children l.at l.name in
    let below = sought_below tree l.current l.sought (predicates_of (map expression l.tests)) (strides_of (map step_of l.rest)) in record {
      count : min l.limit (l.found + below (drop l.i children)) ≡ min l.limit (below children);
      room : l.found < l.limit;
      here : l.next ≡ slice_get children l.i;
      node : IfSome l.next (g.N.Nodes.is_node l.nodes);
      fits : length children < 2 ^ 64;
    }

abbrev pub decreases-count_below-loop-next : goal.decreases-count_below-loop-next
decreases-count_below-loop-next g l = length ((g.N.Nodes.tree l.nodes).children l.at l.name) - l.i

abbrev pub invariant-count_along-loop-step : goal.invariant-count_along-loop-step
invariant-count_along-loop-step g l = let tree = g.N.Nodes.tree l.nodes in record {
  same : min l.limit (how_many (is_sought tree l.current l.sought) (walk_of tree l.current l.ahead l.here))
      ≡ min l.limit (how_many (is_sought tree l.current l.sought) (walk_of tree l.current l.fn.steps l.fn.at));
  node : g.N.Nodes.is_node l.nodes l.here;
  within : strides_weight (strides_of (map step_of l.ahead)) ≤ strides_weight (strides_of (map step_of l.fn.steps));
}

abbrev pub decreases-count_along-loop-step : goal.decreases-count_along-loop-step
decreases-count_along-loop-step g l = strides_weight (strides_of (map step_of l.ahead))

abbrev pub decreases-detour : goal.decreases-detour
decreases-detour g l =
    predicates_weight (predicates_of (map expression l.tests.now)) + strides_weight (strides_of (map step_of l.steps.now)) + 1

abbrev pub decreases-come_back : goal.decreases-come_back
decreases-come_back g l =
    predicates_weight (predicates_of (map expression l.tests.now)) + strides_weight (strides_of (map step_of l.steps.now)) + 1

abbrev pub decreases-child_comes_back : goal.decreases-child_comes_back
decreases-child_comes_back g l =
    predicates_weight (predicates_of (map expression l.tests.now)) + strides_weight (strides_of (map step_of l.steps.now))

abbrev pub decreases-comes_back : goal.decreases-comes_back
decreases-comes_back g l = strides_weight (strides_of (map step_of l.steps.now))

abbrev pub invariant-come_back-loop-next : goal.invariant-come_back-loop-next
invariant-come_back-loop-next g l =
    let tree = g.N.Nodes.tree l.nodes in
    let children = tree.children l.at l.name in record {
      found : Found tree l.current l.tests l.steps (drop l.i children) children l.at l.some;
      here : l.next ≡ slice_get children l.i;
      node : IfSome l.next (g.N.Nodes.is_node l.nodes);
      fits : length children < 2 ^ 64;
    }

abbrev pub decreases-come_back-loop-next : goal.decreases-come_back-loop-next
decreases-come_back-loop-next g l = length ((g.N.Nodes.tree l.nodes).children l.at l.name) - l.i

abbrev pub invariant-comes_back-loop-step : goal.invariant-comes_back-loop-step
invariant-comes_back-loop-step g l = let tree = g.N.Nodes.tree l.nodes in record {
  same : (test : Node → Bool) → finds tree l.current test l.ahead l.at ≡ finds tree l.current test l.fn.steps l.at;
  within : strides_weight (strides_of (map step_of l.ahead)) ≤ strides_weight (strides_of (map step_of l.fn.steps));
}

abbrev pub decreases-comes_back-loop-step : goal.decreases-comes_back-loop-step
decreases-comes_back-loop-step g l = strides_weight (strides_of (map step_of l.ahead))
