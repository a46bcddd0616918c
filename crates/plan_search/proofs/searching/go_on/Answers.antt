use Rattle.std.proofs.Common.{[], ◌∷◌, ◌++◌, length, refl, sym, ap, subst, ◌∙◌, arith, length-append}
use Rattle.plan_search.specs.Searching.{AreMet, IsUnderWay}
use Rattle.plan_search.specs.Stacks.{new_spot, spots, taken}
use Rattle.plan_search.proofs.SearchAnswers.{budget_met, no_order, whole_answer}
use Rattle.plan_search.proofs.SearchInvariants.{met_expanded, under_way_expanded}
use Rattle.plan_search.proofs.searching.go_on.Goals as goal

pub loop-stack-init : goal.loop-stack-init
loop-stack-init g c = record {
  ready = c.requires.ready;
  met = c.requires.met;
  way = c.requires.way;
  below = c.requires.below;
  steps = refl;
}

pub find_new-requires-clause-ready : goal.find_new-requires-clause-ready
find_new-requires-clause-ready g c = c.loop-stack.invariant.ready

pub find_new-requires-clause-way : goal.find_new-requires-clause-way
find_new-requires-clause-way g c = c.loop-stack.invariant.way

pub returns-in-Err-clause-ready : goal.returns-in-Err-clause-ready
returns-in-Err-clause-ready g c = c.find_new.ensures.ready

pub returns-in-Err-clause-steps : goal.returns-in-Err-clause-steps
returns-in-Err-clause-steps g c =
    let steps = c.loop-stack.invariant.steps in
    let below = c.loop-stack.invariant.below in
    omega (arith, steps, below)

pub returns-in-Ok-Nothing-clause-ready : goal.returns-in-Ok-Nothing-clause-ready
returns-in-Ok-Nothing-clause-ready g c = c.find_new.ensures.ready

pub returns-in-Ok-Nothing-clause-answer : goal.returns-in-Ok-Nothing-clause-answer
returns-in-Ok-Nothing-clause-answer g c =
    let p = g.S.Expanding.problem c.args.source.now in
    let found = rw c.in-Ok-Nothing.field-0-is at c.in-Ok-Nothing.ensures.found in
    no_order p c.loop-stack.met c.args.budget c.loop-stack.invariant.met found.1 c.loop-stack.invariant.below

pub returns-in-Ok-Nothing-clause-steps : goal.returns-in-Ok-Nothing-clause-steps
returns-in-Ok-Nothing-clause-steps g c =
    let steps = c.loop-stack.invariant.steps in
    let below = c.loop-stack.invariant.below in
    omega (arith, steps, below)

pub returns-in-Ok-Goal-clause-ready : goal.returns-in-Ok-Goal-clause-ready
returns-in-Ok-Goal-clause-ready g c = c.find_new.ensures.ready

pub returns-in-Ok-Goal-clause-answer : goal.returns-in-Ok-Goal-clause-answer
returns-in-Ok-Goal-clause-answer g c =
    let p = g.S.Expanding.problem c.args.source.now in
    let found = rw c.in-Ok-Goal.field-0-is at c.in-Ok-Goal.ensures.found in
    whole_answer p c.loop-stack.met (spots c.find_new.new.stack) (taken c.find_new.new.stack) c.in-Ok-Goal.mv
    (g.met.S.Expanding.lawful c.args.source.now) c.loop-stack.invariant.met found.1
    c.args.budget c.whole.result c.whole.ensures c.loop-stack.invariant.below

pub returns-in-Ok-Goal-clause-steps : goal.returns-in-Ok-Goal-clause-steps
returns-in-Ok-Goal-clause-steps g c =
    let steps = c.loop-stack.invariant.steps in
    let below = c.loop-stack.invariant.below in
    omega (arith, steps, below)

pub returns-then-len-budget-clause-ready : goal.returns-then-len-budget-clause-ready
returns-then-len-budget-clause-ready g c = c.find_new.ensures.ready

pub returns-then-len-budget-clause-answer : goal.returns-then-len-budget-clause-answer
returns-then-len-budget-clause-answer g c =
    let p = g.S.Expanding.problem c.args.source.now in
    let found = rw c.in-Ok-New.field-0-is at c.in-Ok-New.ensures.found in
    budget_met p c.find_new.new.met c.args.budget
    (subst (AreMet p) (sym found.0)
    (met_expanded p c.loop-stack.met (spots c.find_new.new.stack) (taken c.find_new.new.stack) c.in-Ok-New.mv c.in-Ok-New.next
    (g.met.S.Expanding.lawful c.args.source.now) found.1 c.loop-stack.invariant.met))
    (sym c.len.ensures ∙ c.if-len-budget.true)

pub returns-then-len-budget-clause-steps : goal.returns-then-len-budget-clause-steps
returns-then-len-budget-clause-steps g c =
    let steps = c.loop-stack.invariant.steps in
    let below = c.loop-stack.invariant.below in
    omega (arith, steps, below)

pub same-met : goal.same-met
same-met g c = refl

pub loop-stack-smaller : goal.loop-stack-smaller
loop-stack-smaller g c =
    let found = rw c.in-Ok-New.field-0-is at c.in-Ok-New.ensures.found in
    let more = ap length found.0 ∙ length-append c.loop-stack.met (c.in-Ok-New.next ∷ []) in
    let below = c.loop-stack.invariant.below in
    omega (arith, more, below)

pub loop-stack-preserved : goal.loop-stack-preserved
loop-stack-preserved g c =
    let p = g.S.Expanding.problem c.args.source.now in
    let lawful = g.met.S.Expanding.lawful c.args.source.now in
    let found = rw c.in-Ok-New.field-0-is at c.in-Ok-New.ensures.found in
    let met = c.loop-stack.met ++ c.in-Ok-New.next ∷ [] in
    let ss = spots c.find_new.new.stack in
    let ms = taken c.find_new.new.stack in
    let more = ap length found.0 ∙ length-append c.loop-stack.met (c.in-Ok-New.next ∷ []) in
    let below = c.loop-stack.invariant.below in
    let len = c.len.ensures in
    let other = c.if-len-budget.false in
    let step = c.expand.ensures.steps in
    let steps = c.loop-stack.invariant.steps in
    record {
      ready = c.find_new.ensures.ready;
      met =
          subst (AreMet p) (sym found.0)
          (met_expanded p c.loop-stack.met ss ms c.in-Ok-New.mv c.in-Ok-New.next lawful found.1 c.loop-stack.invariant.met);
      way =
          subst (λ l. IsUnderWay p l (spots c.expand.new.stack) (taken c.expand.new.stack)) (sym found.0)
          (subst (λ l. IsUnderWay p met l (taken c.expand.new.stack)) (sym c.in-Ok.ensures.spots)
          (subst (IsUnderWay p met (new_spot c.in-Ok-New.next ∷ ss)) (sym c.in-Ok.ensures.taken)
          (under_way_expanded p c.loop-stack.met ss ms c.in-Ok-New.mv c.in-Ok-New.next lawful found.1)));
      below = omega (arith, more, below, len, other);
      steps = omega (arith, more, step, steps);
    }

pub returns-in-Err-expand-clause-ready : goal.returns-in-Err-expand-clause-ready
returns-in-Err-expand-clause-ready g c = c.find_new.ensures.ready

pub returns-in-Err-expand-clause-steps : goal.returns-in-Err-expand-clause-steps
returns-in-Err-expand-clause-steps g c =
    let found = rw c.in-Ok-New.field-0-is at c.in-Ok-New.ensures.found in
    let more = ap length found.0 ∙ length-append c.loop-stack.met (c.in-Ok-New.next ∷ []) in
    let below = c.loop-stack.invariant.below in
    let len = c.len.ensures in
    let other = c.if-len-budget.false in
    let step = c.expand.ensures.steps in
    let steps = c.loop-stack.invariant.steps in
    omega (arith, more, below, len, other, step, steps)

pub same-next : goal.same-next
same-next g c = refl
