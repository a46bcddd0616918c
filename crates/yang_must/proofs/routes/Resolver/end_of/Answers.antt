use Rattle.std.proofs.Common.{rules, option_map, ap, sym, ◌∙◌, arith}
use Rattle.yang_must.specs.Routes.{end_of}
use Rattle.yang_must.specs.SpotRefs.{spot_at}
use Rattle.yang_must.proofs.Steps.{end-next, end-none, steps-past}
use Rattle.yang_must.proofs.routes.Resolver.end_of.Goals as goal

pub loop-step-preserved : goal.loop-step-preserved
loop-step-preserved c =
    let tree = c.args.self.now.tree.now in
    let m = c.args.self.now.number in
    c.loop-step.invariant
    ∙ end-next tree m c.args.steps.now c.loop-step.step-index c.step-item.result (search rules) (search rules) (spot_at c.loop-step.spot)
    (spot_at c.in-Some.next) (sym c.after.ensures ∙ ap (option_map spot_at) c.in-Some.is)

pub returns-in-None : goal.returns-in-None
returns-in-None c =
    let tree = c.args.self.now.tree.now in
    let m = c.args.self.now.number in
    sym (c.loop-step.invariant
    ∙ end-none tree m c.args.steps.now c.loop-step.step-index c.step-item.result (search rules) (search rules) (spot_at c.loop-step.spot)
    (sym c.after.ensures ∙ ap (option_map spot_at) c.in-None.is))

pub returns : goal.returns
returns c =
    let tree = c.args.self.now.tree.now in
    let m = c.args.self.now.number in
    sym (c.loop-step.invariant
    ∙ ap (λ ss. end_of tree m ss (spot_at c.loop-step.spot)) (steps-past c.args.steps.now c.loop-step.step-index (omega arith)))
