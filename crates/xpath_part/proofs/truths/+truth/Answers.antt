use Rattle.std.proofs.Common.{rules, ◌≡◌, List, ◌<◌, [], ◌∷◌, length, map, min, nat_lt, drop, suc, ◌+◌, ◌-◌, ◌&&◌, refl, sym, ap, ◌∙◌, arith}
use Rattle.std.specs.List.{list_any}
use Rattle.std.proofs.lemmas.Option.{slice_get_within}
use Rattle.xpath_part.specs.Detours.{finds, finds_below}
use Rattle.xpath_part.specs.Expression.{term_weight, path_weight, strides_of, predicates_of}
use Rattle.xpath_part.specs.Expressions.{expression, term_of, path_of, step_of}
use Rattle.xpath_part.specs.Sought.{is_sought, relates, sought_below}
use Rattle.xpath_part.specs.Truth.{value, term_value, texts, some_pair, selected, compare_numbers}
use Rattle.xpath_part.specs.declared.expressions.Step.{Step}
use Rattle.xpath_part.proofs.Tallies.{any_counted, some_counted, all_counted, compare_up_to, any_texts, below_step, drop_here, drop_end, next_count, last_count, no_more_count}
use Rattle.xpath_part.proofs.WaysBack.{failing_child, lost_child, child_back, next_found, all_found, cut_weight, count_back, count_nowhere, child_count, child_finds, child_weight}
use Rattle.xpath_part.proofs.Weights.{strides_weigh, predicates_weigh, test_lighter}
use Rattle.xpath_part.proofs.truths.+truth.Goals as goal

pub compare-count_selected-requires : goal.compare-count_selected-requires
compare-count_selected-requires g t c κs within =
    let whole : term_weight (term_of c.args.left.now) ≡ suc (suc (path_weight (path_of c.in-Walk.path))) = ap (λ o. term_weight (term_of o)) c.in-Walk.is in
    (omega arith, search rules)

pub compare-returns-in-Walk : goal.compare-returns-in-Walk
compare-returns-in-Walk g t c =
    let tree = g.N.Nodes.tree c.args.nodes.now in
    let right = texts tree c.args.current (term_of c.args.right.now) c.args.context in
    ap (nat_lt 0) c.count_selected.ensures ∙ any_counted _ _
    ∙ sym (any_texts tree (λ a. list_any (relates c.args.relation a) right) (selected tree c.args.current (path_of c.in-Walk.path) c.args.context))
    ∙ ap (λ o. some_pair (relates c.args.relation) (texts tree c.args.current (term_of o) c.args.context) right) (sym c.in-Walk.is)

pub compare_text-returns-in-Walk : goal.compare_text-returns-in-Walk
compare_text-returns-in-Walk g t c =
    let tree = g.N.Nodes.tree c.args.nodes.now in
    ap (nat_lt 0) c.count_selected.ensures ∙ any_counted _ _
    ∙ sym (any_texts tree (relates c.args.relation c.args.text.now) (selected tree c.args.current (path_of c.in-Walk.path) c.args.context))
    ∙ ap (λ o. list_any (relates c.args.relation c.args.text.now) (texts tree c.args.current (term_of o) c.args.context)) (sym c.in-Walk.is)

pub count_below-count_child-found-requires : goal.count_below-count_child-found-requires
count_below-count_child-found-requires g t c κs within =
    let node : g.N.Nodes.is_node c.args.nodes.now c.in-Some.child = rw c.in-Some.is at c.loop-next.invariant.node in
    let room : 0 < c.args.limit - c.loop-next.found = omega (arith, c.loop-next.invariant.room) in
    (omega arith, search rules)

pub count_below-returns-then-found-limit : goal.count_below-returns-then-found-limit
count_below-returns-then-found-limit g t c =
    let tree = g.N.Nodes.tree c.args.nodes.now in
    let children = tree.children c.args.at c.args.name.now in
    let below = sought_below tree c.args.current c.args.sought (predicates_of (map expression c.args.tests.now)) (strides_of (map step_of c.args.rest.now)) in
    let here = drop_here children c.loop-next.i c.in-Some.child (sym c.loop-next.invariant.here ∙ c.in-Some.is) in
    last_count c.args.limit c.loop-next.found _ (below (c.in-Some.child ∷ [])) (below (drop (c.loop-next.i + 1) children)) (below children)
    c.count_child-found.ensures c.loop-next.invariant.room c.if-found-limit.true
    (below_step tree c.args.current c.args.sought (predicates_of (map expression c.args.tests.now)) (strides_of (map step_of c.args.rest.now)) c.args.limit c.loop-next.found _ _ _ _ here c.loop-next.invariant.count)

pub count_below-overflow_add-i : goal.count_below-overflow_add-i
count_below-overflow_add-i g t c =
    let tree = g.N.Nodes.tree c.args.nodes.now in
    let within = slice_get_within (tree.children c.args.at c.args.name.now) c.loop-next.i c.in-Some.child (sym c.loop-next.invariant.here ∙ c.in-Some.is) in
    omega (arith, within, c.loop-next.invariant.fits)

pub count_below-loop-next-smaller : goal.count_below-loop-next-smaller
count_below-loop-next-smaller g t c =
    let tree = g.N.Nodes.tree c.args.nodes.now in
    let within = slice_get_within (tree.children c.args.at c.args.name.now) c.loop-next.i c.in-Some.child (sym c.loop-next.invariant.here ∙ c.in-Some.is) in
    omega (arith, within)

pub count_below-loop-next-preserved : goal.count_below-loop-next-preserved
count_below-loop-next-preserved g t c =
    let tree = g.N.Nodes.tree c.args.nodes.now in
    let children = tree.children c.args.at c.args.name.now in
    let below = sought_below tree c.args.current c.args.sought (predicates_of (map expression c.args.tests.now)) (strides_of (map step_of c.args.rest.now)) in
    let here = drop_here children c.loop-next.i c.in-Some.child (sym c.loop-next.invariant.here ∙ c.in-Some.is) in
    record {
      count = next_count c.args.limit c.loop-next.found _ (below (c.in-Some.child ∷ [])) (below (drop (c.loop-next.i + 1) children)) _
          c.count_child-found.ensures c.loop-next.invariant.room c.if-found-limit.false
          (below_step tree c.args.current c.args.sought (predicates_of (map expression c.args.tests.now)) (strides_of (map step_of c.args.rest.now)) c.args.limit c.loop-next.found _ _ _ _ here c.loop-next.invariant.count);
      room = omega (arith, c.count_child-found.ensures, c.if-found-limit.false, c.loop-next.invariant.room);
      here = c.next-next.ensures.next;
      node = c.next-next.ensures.node;
      fits = c.loop-next.invariant.fits;
    }

pub count_below-returns : goal.count_below-returns
count_below-returns g t c =
    let tree = g.N.Nodes.tree c.args.nodes.now in
    let children = tree.children c.args.at c.args.name.now in
    let below = sought_below tree c.args.current c.args.sought (predicates_of (map expression c.args.tests.now)) (strides_of (map step_of c.args.rest.now)) in
    let none = drop_end children c.loop-next.i (sym c.loop-next.invariant.here ∙ c.in_default.is) in
    no_more_count c.args.limit c.loop-next.found _ c.loop-next.invariant.room
    (ap (λ ns. min c.args.limit (c.loop-next.found + below ns)) (sym none) ∙ c.loop-next.invariant.count)

pub child_comes_back-pass-requires : goal.child_comes_back-pass-requires
child_comes_back-pass-requires g t c κs within = (omega (arith, strides_weigh (strides_of (map step_of c.args.steps.now))), search rules)

pub child_comes_back-comes_back-requires : goal.child_comes_back-comes_back-requires
child_comes_back-comes_back-requires g t c κs within = (omega (arith, predicates_weigh (predicates_of (map expression c.args.tests.now))), search rules)

pub child_comes_back-returns-then-not-pass : goal.child_comes_back-returns-then-not-pass
child_comes_back-returns-then-not-pass g t c =
    failing_child (g.N.Nodes.tree c.args.nodes.now) c.args.current c.args.tests.now c.args.steps.now c.args.child c.args.at (sym c.pass.ensures ∙ c.if-not-pass.true)

pub child_comes_back-returns-then-is_child : goal.child_comes_back-returns-then-is_child
child_comes_back-returns-then-is_child g t c =
    child_back (g.N.Nodes.tree c.args.nodes.now) c.args.current c.args.tests.now c.args.steps.now c.args.child c.args.at (sym c.pass.ensures ∙ c.if-not-pass.false)
    (λ test. c.in-Some-true.ensures test ∙ ap (λ b. b && test c.args.child) c.in-Some-true.field-0-test) (c.is_child.ensures c.if-is_child.true)

pub child_comes_back-returns-in-Some-false : goal.child_comes_back-returns-in-Some-false
child_comes_back-returns-in-Some-false g t c =
    lost_child (g.N.Nodes.tree c.args.nodes.now) c.args.current c.args.tests.now c.args.steps.now c.args.child c.args.at
    (λ test. c.in-Some-false.ensures test ∙ ap (λ b. b && test c.args.child) c.in-Some-false.field-0-test)

pub come_back-loop-next-init : goal.come_back-loop-next-init
come_back-loop-next-init g t c =
    record { found = λ test tail. refl; here = c.first-next.ensures.first; node = c.first-next.ensures.node; fits = c.first-next.ensures.fits }

pub come_back-overflow_add-i : goal.come_back-overflow_add-i
come_back-overflow_add-i g t c =
    let tree = g.N.Nodes.tree c.args.nodes.now in
    let within = slice_get_within (tree.children c.args.at c.args.name.now) c.loop-next.i c.in-Some.child (sym c.loop-next.invariant.here ∙ c.in-Some.is) in
    omega (arith, within, c.loop-next.invariant.fits)

pub come_back-loop-next-smaller : goal.come_back-loop-next-smaller
come_back-loop-next-smaller g t c =
    let tree = g.N.Nodes.tree c.args.nodes.now in
    let within = slice_get_within (tree.children c.args.at c.args.name.now) c.loop-next.i c.in-Some.child (sym c.loop-next.invariant.here ∙ c.in-Some.is) in
    omega (arith, within)

pub come_back-loop-next-preserved : goal.come_back-loop-next-preserved
come_back-loop-next-preserved g t c =
    let tree = g.N.Nodes.tree c.args.nodes.now in
    let children = tree.children c.args.at c.args.name.now in
    record {
      found = next_found tree c.args.current c.args.tests.now c.args.steps.now _ c.in-Some.child (drop (c.loop-next.i + 1) children) children c.args.at c.loop-next.some c.in_ok-back.back
          (drop_here children c.loop-next.i c.in-Some.child (sym c.loop-next.invariant.here ∙ c.in-Some.is)) c.in_ok-back.ensures c.loop-next.invariant.found;
      here = c.next-next.ensures.next;
      node = c.next-next.ensures.node;
      fits = c.loop-next.invariant.fits;
    }

pub come_back-returns : goal.come_back-returns
come_back-returns g t c =
    let tree = g.N.Nodes.tree c.args.nodes.now in
    let children = tree.children c.args.at c.args.name.now in
    all_found tree c.args.current c.args.tests.now c.args.steps.now _ children c.args.at c.loop-next.some
    (drop_end children c.loop-next.i (sym c.loop-next.invariant.here ∙ c.in_default.is)) c.loop-next.invariant.found

pub comes_back-loop-step-preserved : goal.comes_back-loop-step-preserved
comes_back-loop-step-preserved g t c =
    let tree = g.N.Nodes.tree c.args.nodes.now in
    let back = c.in-Back.ensures in
    let weigh = child_weight _ _ _ _ c.in-Some.rest.now _ (ap step_of c.in-Child.is) c.in-Some.ensures.cases.0 in
    record {
      same = λ test. sym (back.same test)
          ∙ child_finds tree c.args.current test c.args.at c.as_str.result.now _ c.items.result.now _ _ _ c.in-Some.rest.now _ _
          c.as_str.ensures.text c.items.ensures (ap step_of c.in-Child.is) c.in-Some.ensures.cases.0 (c.loop-step.invariant.same test);
      within = omega (arith, back.less, weigh, c.loop-step.invariant.within);
    }

pub comes_back-returns-in-Nowhere : goal.comes_back-returns-in-Nowhere
comes_back-returns-in-Nowhere g t c = λ test.
    let tree = g.N.Nodes.tree c.args.nodes.now in
    sym (child_finds tree c.args.current test c.args.at c.as_str.result.now _ c.items.result.now _ _ _ c.in-Some.rest.now _ _
    c.as_str.ensures.text c.items.ensures (ap step_of c.in-Child.is) c.in-Some.ensures.cases.0 (c.loop-step.invariant.same test))
    ∙ c.in-Nowhere.ensures.none test

pub count_along-loop-step-preserved : goal.count_along-loop-step-preserved
count_along-loop-step-preserved g t c =
    let tree = g.N.Nodes.tree c.args.nodes.now in
    let sought = is_sought tree c.args.current c.args.sought in
    let children = tree.children c.loop-step.here c.as_str-name.result.now in
    let back = c.in-Back.ensures in
    let weigh = child_weight _ _ _ _ c.in-Some.rest.now _ (ap step_of c.in-Child.is) c.in-Some.ensures.cases.0 in
    record {
      same = sym (count_back tree c.args.current c.args.limit c.items-tests.result.now c.in-Some.rest.now c.in-Back.tail.now children c.loop-step.here sought back)
          ∙ child_count tree c.args.current c.args.limit sought c.loop-step.here c.as_str-name.result.now _ c.items-tests.result.now _ _ _ c.in-Some.rest.now _ _
          c.as_str-name.ensures.text c.items-tests.ensures (ap step_of c.in-Child.is) c.in-Some.ensures.cases.0 c.loop-step.invariant.same;
      node = c.loop-step.invariant.node;
      within = omega (arith, back.less, weigh, c.loop-step.invariant.within);
    }

pub count_along-returns-in-Nowhere : goal.count_along-returns-in-Nowhere
count_along-returns-in-Nowhere g t c =
    let tree = g.N.Nodes.tree c.args.nodes.now in
    let below = child_count tree c.args.current c.args.limit (is_sought tree c.args.current c.args.sought) c.loop-step.here c.as_str-name.result.now _ c.items-tests.result.now _ _ _ c.in-Some.rest.now _ _
    c.as_str-name.ensures.text c.items-tests.ensures (ap step_of c.in-Child.is) c.in-Some.ensures.cases.0 c.loop-step.invariant.same in
    sym (count_nowhere tree c.args.current c.args.limit c.items-tests.result.now c.in-Some.rest.now (tree.children c.loop-step.here c.as_str-name.result.now) (is_sought tree c.args.current c.args.sought) c.in-Nowhere.ensures) ∙ below

pub count_along-returns-in-Unknown : goal.count_along-returns-in-Unknown
count_along-returns-in-Unknown g t c =
    let tree = g.N.Nodes.tree c.args.nodes.now in
    let below = child_count tree c.args.current c.args.limit (is_sought tree c.args.current c.args.sought) c.loop-step.here c.as_str-name.result.now _ c.items-tests.result.now _ _ _ c.in-Some.rest.now _ _
    c.as_str-name.ensures.text c.items-tests.ensures (ap step_of c.in-Child.is) c.in-Some.ensures.cases.0 c.loop-step.invariant.same in
    c.count_below.ensures ∙ below

pub detour-come_back-requires : goal.detour-come_back-requires
detour-come_back-requires g t c κs within =
    let cut = cut_weight c.args.steps.now c.in-Some.inner.now c.in-Some.tail.now c.in-Some.ensures in
    (omega (arith, cut, strides_weigh (strides_of (map step_of c.in-Some.tail.now))), search rules)

pub detour-returns-in-Some-true : goal.detour-returns-in-Some-true
detour-returns-in-Some-true g t c =
    let tree = g.N.Nodes.tree c.args.nodes.now in
    let cut = cut_weight c.args.steps.now c.in-Some.inner.now c.in-Some.tail.now c.in-Some.ensures in
    record {
      one = omega (arith, c.if-limit-ne1.false);
      same = λ test. ap (λ (l : List Step). finds_below tree c.args.current test c.args.tests.now l (tree.children c.args.at c.args.name.now)) c.in-Some.ensures
          ∙ c.in-Some-true.ensures test c.in-Some.tail.now
          ∙ ap (λ b. b && finds tree c.args.current test c.in-Some.tail.now c.args.at) c.in-Some-true.field-0-test;
      less = omega (arith, cut);
    }

pub detour-returns-in-Some-false : goal.detour-returns-in-Some-false
detour-returns-in-Some-false g t c =
    let tree = g.N.Nodes.tree c.args.nodes.now in
    record {
      one = omega (arith, c.if-limit-ne1.false);
      none = λ test. ap (λ (l : List Step). finds_below tree c.args.current test c.args.tests.now l (tree.children c.args.at c.args.name.now)) c.in-Some.ensures
          ∙ c.in-Some-false.ensures test c.in-Some.tail.now
          ∙ ap (λ b. b && finds tree c.args.current test c.in-Some.tail.now c.args.at) c.in-Some-false.field-0-test;
    }

pub count_child-pass-requires : goal.count_child-pass-requires
count_child-pass-requires g t c κs within = (omega (arith, strides_weigh (strides_of (map step_of c.args.rest.now))), search rules)

pub count_child-count_along-requires : goal.count_child-count_along-requires
count_child-count_along-requires g t c κs within = (omega (arith, predicates_weigh (predicates_of (map expression c.args.tests.now))), search rules)

pub stands-returns-in-Walk : goal.stands-returns-in-Walk
stands-returns-in-Walk g t c =
    let tree = g.N.Nodes.tree c.args.nodes.now in
    ap (nat_lt 0) c.count_selected.ensures ∙ some_counted (selected tree c.args.current (path_of c.in-Walk.path) c.args.context)
    ∙ ap (λ o. term_value tree c.args.current (term_of o) c.args.context) (sym c.in-Walk.is)

pub judge-returns-in-Count : goal.judge-returns-in-Count
judge-returns-in-Count g t c =
    let tree = g.N.Nodes.tree c.args.nodes.now in
    let nodes = selected tree c.args.current (path_of c.in-Count.path) c.args.context in
    c.compare_count.ensures
    ∙ ap (λ k. compare_numbers c.in-Count.cmp k c.in-Count.n) (c.count_selected-count.ensures ∙ ap (min (c.in-Count.n + 1)) (all_counted nodes))
    ∙ compare_up_to c.in-Count.cmp (length nodes) c.in-Count.n
    ∙ ap (λ e. value tree c.args.current (expression e) c.args.context) (sym c.in-Count.is)
    ∙ c.loop-at.invariant.same

pub pass-judge-requires : goal.pass-judge-requires
pass-judge-requires g t c κs within =
    let lighter = test_lighter c.args.tests.now c.loop-test.test-index c.test-item.result c.loop-test-test.true c.test-item.is in
    (omega (arith, lighter), search rules)
