use Rattle.std.proofs.Common.{rules, ◌≡◌, ◌+◌, suc, List, option_map, subst, ap, sym, ◌∙◌, arith}
use Rattle.xpath_part.specs.Expression.{Expression, weight, Strides, Predicates}
use Rattle.xpath_part.specs.Expressions.{expression}
use Rattle.xpath_part.specs.declared.expressions.Expr.{Expr}
use Rattle.xpath_part.proofs.Weights.{test_lighter}
use Rattle.yang_must.specs.Findings.{Finds}
use Rattle.yang_must.specs.Routes.{Route, routes, inner_routes, test_routes}
use Rattle.yang_must.specs.SpotRefs.{spot_at}
use Rattle.yang_must.proofs.FollowedPaths.{Finds-none, Finds-both, Finds-swap}
use Rattle.yang_must.proofs.Steps.{inner-next, inner-none, steps-past, step_lighter, tests-here, tests-past}
use Rattle.yang_must.proofs.routes.Resolver.+routes.Goals as goal

pub note_expression-loop-at-preserved-in-Or : goal.note_expression-loop-at-preserved-in-Or
note_expression-loop-at-preserved-in-Or t c =
    let tree = c.args.self.now.tree.now in
    let m = c.args.self.now.number in
    let found : Expression → List Route = λ e. routes tree m (spot_at c.args.self.now.current.now) e (spot_at c.args.context.now) in
    let same : weight (expression c.loop-at.at.now) ≡ suc (weight c.in-Or.left + weight c.in-Or.right) = ap (λ e. weight (expression e)) c.in-Or.is in
    let left : weight (expression c.expr-at.result.now) ≡ weight c.in-Or.left = ap weight c.expr-at.ensures in record {
      goes = λ final rest.
          c.loop-at.invariant.goes final
          (subst (λ (e : Expr). Finds tree m c.loop-at.findings final (found (expression e))) (sym c.in-Or.is)
          (Finds-swap tree m c.loop-at.findings c.note_expression.new.findings final (found c.in-Or.left) (found c.in-Or.right)
          (subst (λ (e : Expression). Finds tree m c.loop-at.findings c.note_expression.new.findings (found e)) c.expr.ensures c.in_ok-note_expression-in-Or.ensures)
          (subst (λ (e : Expression). Finds tree m c.note_expression.new.findings final (found e)) c.expr-at.ensures rest)));
      within = omega (arith, c.loop-at.invariant.within);
    }

pub note_expression-loop-at-preserved-in-And : goal.note_expression-loop-at-preserved-in-And
note_expression-loop-at-preserved-in-And t c =
    let tree = c.args.self.now.tree.now in
    let m = c.args.self.now.number in
    let found : Expression → List Route = λ e. routes tree m (spot_at c.args.self.now.current.now) e (spot_at c.args.context.now) in
    let same : weight (expression c.loop-at.at.now) ≡ suc (weight c.in-And.left + weight c.in-And.right) = ap (λ e. weight (expression e)) c.in-And.is in
    let left : weight (expression c.expr-at-in-And.result.now) ≡ weight c.in-And.left = ap weight c.expr-at-in-And.ensures in record {
      goes = λ final rest.
          c.loop-at.invariant.goes final
          (subst (λ (e : Expr). Finds tree m c.loop-at.findings final (found (expression e))) (sym c.in-And.is)
          (Finds-swap tree m c.loop-at.findings c.note_expression-in-And.new.findings final (found c.in-And.left) (found c.in-And.right)
          (subst (λ (e : Expression). Finds tree m c.loop-at.findings c.note_expression-in-And.new.findings (found e)) c.expr-in-And.ensures c.in_ok-note_expression-in-And.ensures)
          (subst (λ (e : Expression). Finds tree m c.note_expression-in-And.new.findings final (found e)) c.expr-at-in-And.ensures rest)));
      within = omega (arith, c.loop-at.invariant.within);
    }

pub note_expression-loop-at-preserved : goal.note_expression-loop-at-preserved
note_expression-loop-at-preserved t c =
    let tree = c.args.self.now.tree.now in
    let m = c.args.self.now.number in
    let found : Expression → List Route = λ e. routes tree m (spot_at c.args.self.now.current.now) e (spot_at c.args.context.now) in
    let same : weight (expression c.loop-at.at.now) ≡ suc (weight c.in-Not.inner) = ap (λ e. weight (expression e)) c.in-Not.is in
    let inner : weight (expression c.expr-at-in-Not.result.now) ≡ weight c.in-Not.inner = ap weight c.expr-at-in-Not.ensures in record {
      goes = λ final rest.
          c.loop-at.invariant.goes final
          (subst (λ (e : Expr). Finds tree m c.loop-at.findings final (found (expression e))) (sym c.in-Not.is)
          (subst (λ (e : Expression). Finds tree m c.loop-at.findings final (found e)) c.expr-at-in-Not.ensures rest));
      within = omega (arith, c.loop-at.invariant.within);
    }

pub note_inner-note_step-requires : goal.note_inner-note_step-requires
note_inner-note_step-requires t c =
    let lighter = step_lighter c.args.steps.now c.loop-step.step-index c.step-item.result c.loop-step-test.true c.step-item.is in
    (omega (arith, lighter), tt)

pub note_inner-returns-in-None : goal.note_inner-returns-in-None
note_inner-returns-in-None t c =
    let tree = c.args.self.now.tree.now in
    let m = c.args.self.now.number in
    let f = c.loop-step.findings in
    c.loop-step.invariant f
    (subst (λ (rs : List Route). Finds tree m f f rs)
    (sym (inner-none tree m c.args.steps.now c.loop-step.step-index c.step-item.result (search rules) (search rules) (spot_at c.loop-step.spot)
    (spot_at c.args.self.now.current.now) (sym c.after.ensures ∙ ap (option_map spot_at) c.in-None.is)))
    (Finds-none tree m f))

pub note_inner-loop-step-preserved : goal.note_inner-loop-step-preserved
note_inner-loop-step-preserved t c = λ final rest.
    let tree = c.args.self.now.tree.now in
    let m = c.args.self.now.number in
    c.loop-step.invariant final
    (subst (λ (rs : List Route). Finds tree m c.loop-step.findings final rs)
    (sym (inner-next tree m c.args.steps.now c.loop-step.step-index c.step-item.result (search rules) (search rules) (spot_at c.loop-step.spot)
    (spot_at c.args.self.now.current.now) (spot_at c.in-Some.next) (sym c.after.ensures ∙ ap (option_map spot_at) c.in-Some.is)))
    (Finds-both tree m c.loop-step.findings c.note_step.new.findings final _ _ c.in_ok-note_step-in-Some.ensures rest))

pub note_inner-returns : goal.note_inner-returns
note_inner-returns t c =
    let tree = c.args.self.now.tree.now in
    let m = c.args.self.now.number in
    let f = c.loop-step.findings in
    c.loop-step.invariant f
    (subst (λ (ss : Strides). Finds tree m f f (inner_routes tree m (spot_at c.args.self.now.current.now) ss (spot_at c.loop-step.spot)))
    (sym (steps-past c.args.steps.now c.loop-step.step-index (omega arith)))
    (Finds-none tree m f))

pub note_tests-note_expression-requires : goal.note_tests-note_expression-requires
note_tests-note_expression-requires t c =
    let lighter = test_lighter c.args.tests.now c.loop-test.test-index c.test-item.result c.loop-test-test.true c.test-item.is in
    (omega (arith, lighter), tt)

pub note_tests-loop-test-preserved : goal.note_tests-loop-test-preserved
note_tests-loop-test-preserved t c = λ final rest.
    let tree = c.args.self.now.tree.now in
    let m = c.args.self.now.number in
    c.loop-test.invariant final
    (subst (λ (es : Predicates). Finds tree m c.loop-test.findings final (test_routes tree m (spot_at c.args.self.now.current.now) es (spot_at c.args.spot.now)))
    (sym (tests-here c.args.tests.now c.loop-test.test-index c.test-item.result (search rules) (search rules)))
    (Finds-both tree m c.loop-test.findings c.note_expression.new.findings final _ _ c.in_ok-note_expression.ensures rest))

pub note_tests-returns : goal.note_tests-returns
note_tests-returns t c =
    let tree = c.args.self.now.tree.now in
    let m = c.args.self.now.number in
    let f = c.loop-test.findings in
    c.loop-test.invariant f
    (subst (λ (es : Predicates). Finds tree m f f (test_routes tree m (spot_at c.args.self.now.current.now) es (spot_at c.args.spot.now)))
    (sym (tests-past c.args.tests.now c.loop-test.test-index (omega arith)))
    (Finds-none tree m f))
