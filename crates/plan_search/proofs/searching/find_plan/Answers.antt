use Rattle.std.proofs.Common.{◌≡◌, ◌≢◌, [], ◌∷◌, length, sym, ap, subst, ◌∙◌, arith, true≢false, Ok}
use Rattle.plan_search.specs.Answers.{IsAnswer}
use Rattle.plan_search.specs.Searching.{AreMet, IsUnderWay}
use Rattle.plan_search.specs.Stacks.{new_spot, spots, taken}
use Rattle.plan_search.proofs.SearchAnswers.{budget_met, no_moves}
use Rattle.plan_search.proofs.SearchInvariants.{met_begun, under_way_begun}
use Rattle.plan_search.proofs.searching.find_plan.Goals as goal

pub returns-then-same-clause-ready : goal.returns-then-same-clause-ready
returns-then-same-clause-ready g c = c.requires.ready

pub returns-then-same-clause-answer : goal.returns-then-same-clause-answer
returns-then-same-clause-answer g c =
    let p = g.S.Expanding.problem c.args.source.now in
    let same : p.start ≡ p.goal = sym c.start.ensures ∙ c.same.ensures.0 c.if-same.true ∙ c.config.ensures ∙ c.goal.ensures in
    subst (λ l. IsAnswer p c.args.budget (Ok l)) (sym c.new.ensures) (no_moves p c.args.budget c.requires.budget same)

pub returns-then-same-clause-steps : goal.returns-then-same-clause-steps
returns-then-same-clause-steps g c = let some = c.requires.budget in omega (arith, some)

pub returns-then-budget-eq1-clause-ready : goal.returns-then-budget-eq1-clause-ready
returns-then-budget-eq1-clause-ready g c = c.requires.ready

pub returns-then-budget-eq1-clause-answer : goal.returns-then-budget-eq1-clause-answer
returns-then-budget-eq1-clause-answer g c =
    let p = g.S.Expanding.problem c.args.source.now in
    let other : p.start ≢ p.goal =
    λ e. true≢false (sym (c.same.ensures.1 (c.start.ensures ∙ e ∙ sym (c.config.ensures ∙ c.goal.ensures))) ∙ c.if-same.false) in
    let one = c.if-budget-eq1.true in
    budget_met p (p.start ∷ []) c.args.budget (met_begun p other) (omega (arith, one))

pub returns-then-budget-eq1-clause-steps : goal.returns-then-budget-eq1-clause-steps
returns-then-budget-eq1-clause-steps g c = let some = c.requires.budget in omega (arith, some)

pub begin-requires-clause-met : goal.begin-requires-clause-met
begin-requires-clause-met g c = c.new-met.ensures

pub begin-requires-clause-stack : goal.begin-requires-clause-stack
begin-requires-clause-stack g c = c.new-stack.ensures.spots

pub go_on-requires-clause-ready : goal.go_on-requires-clause-ready
go_on-requires-clause-ready g c = c.requires.ready

pub go_on-requires-clause-met : goal.go_on-requires-clause-met
go_on-requires-clause-met g c =
    let p = g.S.Expanding.problem c.args.source.now in
    let other : p.start ≢ p.goal =
    λ e. true≢false (sym (c.same.ensures.1 (c.start.ensures ∙ e ∙ sym (c.config.ensures ∙ c.goal.ensures))) ∙ c.if-same.false) in
    subst (AreMet p) (sym c.in-Ok.ensures.met) (met_begun p other)

pub go_on-requires-clause-way : goal.go_on-requires-clause-way
go_on-requires-clause-way g c =
    let p = g.S.Expanding.problem c.args.source.now in
    subst (λ l. IsUnderWay p l (spots c.begin.new.stack) (taken c.begin.new.stack)) (sym c.in-Ok.ensures.met)
    (subst (λ l. IsUnderWay p (p.start ∷ []) l (taken c.begin.new.stack)) (sym c.in-Ok.ensures.spots)
    (subst (IsUnderWay p (p.start ∷ []) (new_spot p.start ∷ [])) (sym (c.begin.ensures.taken ∙ c.new-stack.ensures.taken))
    (under_way_begun p (g.met.S.Expanding.lawful c.args.source.now) c.requires.fit)))

pub go_on-requires-clause-below : goal.go_on-requires-clause-below
go_on-requires-clause-below g c =
    let one = ap length c.in-Ok.ensures.met in
    let some = c.requires.budget in
    let more = c.if-budget-eq1.false in
    omega (arith, one, some, more)

pub returns-in-Ok-clause-ready : goal.returns-in-Ok-clause-ready
returns-in-Ok-clause-ready g c = c.go_on.ensures.ready

pub returns-in-Ok-clause-answer : goal.returns-in-Ok-clause-answer
returns-in-Ok-clause-answer g c = c.go_on.ensures.answer

pub returns-in-Ok-clause-steps : goal.returns-in-Ok-clause-steps
returns-in-Ok-clause-steps g c =
    let one = ap length c.in-Ok.ensures.met in
    let step = c.begin.ensures.steps in
    let cost = c.go_on.ensures.steps in
    omega (arith, one, step, cost)

pub returns-in-Err-clause-ready : goal.returns-in-Err-clause-ready
returns-in-Err-clause-ready g c = c.requires.ready

pub returns-in-Err-clause-steps : goal.returns-in-Err-clause-steps
returns-in-Err-clause-steps g c =
    let step = c.begin.ensures.steps in
    let some = c.requires.budget in
    let more = c.if-budget-eq1.false in
    omega (arith, step, some, more)
