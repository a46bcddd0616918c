use Rattle.std.proofs.Common.{rules, ◌≡◌, ◌∙◌, ◌-◌, ◌++◌, ℕ, List, [], ◌∷◌, length, map, reverse, sym, ap, arith}
use Rattle.yang_scope.specs.Modules.{Module}
use Rattle.yang_values.specs.Walks.{step_type, visited, built}
use Rattle.yang_values.specs.declared.walks.Place.{Place}
use Rattle.yang_values.specs.declared.walks.Step.{Step}
use Rattle.yang_values.specs.declared.walks.Visit.{Visit}
use Rattle.yang_values.proofs.Visits.{visit_more, steps_pushed}
use Rattle.yang_values.proofs.walks.visits.Goals as goal

pub loop-round-preserved : goal.loop-round-preserved
loop-round-preserved c = λ is_pattern.
    let modules : List Module = c.args.names.now in
    let step : Step = c.in-Some.step in
    let n : ℕ = step.most - 1 in
    let found : List Visit = c.loop-round.found.items in
    let places : List Place = c.in_ok-places-in-Some.places.items in
    let rest : List Step = reverse c.pop.new.self.items in
    let mk : Place → Step = λ p. record { most = n; place = p } in
    let popped : c.loop-round.pending.items ≡ c.pop.new.self.items ++ step ∷ [] = search rules in
    let steps = steps_pushed n places c.as_slice.result.now c.push_steps.new.pending.items c.pop.new.self.items step c.loop-round.pending.items popped (c.as_slice.ensures.value ∙ c.reverse.ensures.items) c.in_ok-push_steps-in-Some.ensures in
    let len : length places ≡ c.len.result = search rules in
    c.loop-round.invariant is_pattern
    ∙ ap (λ ss. built is_pattern modules (reverse (map visited found)) (map (step_type is_pattern modules) ss)) steps.1
    ∙ visit_more is_pattern modules found rest step n places (omega arith) c.in_ok-places-in-Some.ensures
    ∙ ap (λ k. built is_pattern modules (reverse (map visited (found ++ record { place = step.place; children = k } ∷ []))) (map (step_type is_pattern modules) (map mk places ++ rest))) len
    ∙ ap (λ vs. built is_pattern modules (reverse (map visited vs)) (map (step_type is_pattern modules) (map mk places ++ rest))) (sym c.in_ok-push-in-Some.ensures.items)
    ∙ ap (λ ss. built is_pattern modules (reverse (map visited c.push-in-Some.new.self.items)) (map (step_type is_pattern modules) ss)) (sym steps.0)
