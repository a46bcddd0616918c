use Rattle.std.proofs.Common.{◌≤◌, ◌+◌, map, drop}
use Rattle.xpath_part.specs.Expression.{weight, term_weight, path_weight, strides_weight, stride_weight, predicates_weight, strides_of, predicates_of}
use Rattle.xpath_part.specs.Expressions.{expression, term_of, path_of, step_of}
use Rattle.yang_must.specs.Findings.{Finds}
use Rattle.yang_must.specs.Routes.{routes, inner_routes, test_routes}
use Rattle.yang_must.specs.SpotRefs.{spot_at}
use Rattle.yang_must.specs.declared.findings.Findings.{Findings}
use Rattle.yang_must.proofs.routes.Resolver.+routes.Given as goal

abbrev pub decreases-note_expression : goal.decreases-note_expression
decreases-note_expression l = weight (expression l.expr.now)

abbrev pub decreases-note_sides : goal.decreases-note_sides
decreases-note_sides l = term_weight (term_of l.left.now) + term_weight (term_of l.right.now)

abbrev pub decreases-note_operand : goal.decreases-note_operand
decreases-note_operand l = term_weight (term_of l.operand.now)

abbrev pub decreases-note_path : goal.decreases-note_path
decreases-note_path l = path_weight (path_of l.path.now)

abbrev pub decreases-note_inner : goal.decreases-note_inner
decreases-note_inner l = strides_weight (strides_of (map step_of l.steps.now))

abbrev pub decreases-note_step : goal.decreases-note_step
decreases-note_step l = stride_weight (step_of l.step.now)

abbrev pub decreases-note_tests : goal.decreases-note_tests
decreases-note_tests l = predicates_weight (predicates_of (map expression l.tests.now))

abbrev pub invariant-note_expression-loop-at : goal.invariant-note_expression-loop-at
invariant-note_expression-loop-at l =
    let found = routes l.self.tree.now l.self.number (spot_at l.self.current.now) in record {
      goes :
          (final : Findings)
          → Finds l.self.tree.now l.self.number l.findings final (found (expression l.at) (spot_at l.context))
          → Finds l.self.tree.now l.self.number l.fn.findings final (found (expression l.fn.expr) (spot_at l.context));
      within : weight (expression l.at) ≤ weight (expression l.fn.expr);
    }

abbrev pub decreases-note_expression-loop-at : goal.decreases-note_expression-loop-at
decreases-note_expression-loop-at l = weight (expression l.at)

abbrev pub invariant-note_inner-loop-step : goal.invariant-note_inner-loop-step
invariant-note_inner-loop-step l =
    let found = inner_routes l.self.tree.now l.self.number (spot_at l.self.current.now) in
    (final : Findings)
    → Finds l.self.tree.now l.self.number l.findings final (found (strides_of (map step_of (drop l.step-index l.steps))) (spot_at l.spot))
    → Finds l.self.tree.now l.self.number l.fn.findings final (found (strides_of (map step_of l.steps)) (spot_at l.origin))

abbrev pub invariant-note_tests-loop-test : goal.invariant-note_tests-loop-test
invariant-note_tests-loop-test l =
    let found = test_routes l.self.tree.now l.self.number (spot_at l.self.current.now) in
    (final : Findings)
    → Finds l.self.tree.now l.self.number l.findings final (found (predicates_of (map expression (drop l.test-index l.tests))) (spot_at l.spot))
    → Finds l.self.tree.now l.self.number l.fn.findings final (found (predicates_of (map expression l.tests)) (spot_at l.spot))
