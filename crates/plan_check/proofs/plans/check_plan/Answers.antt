use Rattle.std.proofs.Common.{◌+◌, take, refl, sym, subst}
use Rattle.conf_doc.proofs.Lists.{take_step}
use Rattle.conf_check.specs.Validity.{IsValid}
use Rattle.conf_doc.specs.declared.configuration.Config.{Config}
use Rattle.move_core.specs.Contexts.{rulebook}
use Rattle.move_core.specs.Plans.{IsWay}
use Rattle.plan_check.specs.Verdicts.{IsVerdict}
use Rattle.plan_check.proofs.StepFaults.{step_fault}
use Rattle.plan_check.proofs.WayLemmas.{way_more}
use Rattle.plan_check.proofs.plans.check_plan.Goals as goal

pub returns-in-Refused : goal.returns-in-Refused
returns-in-Refused c =
    let book = rulebook c.args.ctx.now in
    let aim = c.args.goal.now in
    let i = c.loop-i.i in
    let m = c.index-moves-i.result in
    let cur = c.loop-i.cur in
    let verdict = subst (IsVerdict book aim cur m) c.in-Refused.is c.in_ok-next.ensures.verdict in
    step_fault book c.args.start.now aim c.items-moves.result.now i m c.loop-i-test.true c.index-moves-i.is cur
    c.loop-i.invariant.0
    c.args.plan.now c.items-moves.ensures (i + 1) c.in-Refused.why refl c.in_ok-next.ensures.formed verdict

pub loop-i-preserved : goal.loop-i-preserved
loop-i-preserved c =
    let book = rulebook c.args.ctx.now in
    let start = c.args.start.now in
    let aim = c.args.goal.now in
    let moves = c.items-moves.result.now in
    let i = c.loop-i.i in
    let m = c.index-moves-i.result in
    let cur = c.loop-i.cur in
    let next = c.in-Allowed.next in
    let verdict = subst (IsVerdict book aim cur m) c.in-Allowed.is c.in_ok-next.ensures.verdict in (
      subst (λ l. IsWay book aim start l next) (sym (take_step moves i m c.loop-i-test.true c.index-moves-i.is))
          (way_more book aim start (take i moves) cur m next c.loop-i.invariant.0 verdict.0 verdict.1),
      λ _. subst (λ (x : Config). IsValid c.args.ctx.now.models x) (sym verdict.1) verdict.0.rules.full,
    )
