use Rattle.std.proofs.Common.{◌≡◌, ◌+◌, ◌<◌, ◌^◌, ◌∷◌, [], length, ap, arith, subst, length-append}
use Rattle.host_core.specs.Characters.{line_feed}
use Rattle.plan_texts.specs.Moves.{IsStepIn}
use Rattle.plan_texts.proofs.PlanLines.{missing, moves_more, no_step, other_end, steps_more}
use Rattle.plan_texts.proofs.reading.read_steps.Goals as goal

pub returns-in_default : goal.returns-in_default
returns-in_default c text is =
    let steps = c.args.steps.now in
    let rest = c.loop-number.rest.now in
    let ms = c.loop-number.plan in
    let inv = c.loop-number.invariant in
    let small : c.args.count < 2 ^ 32 = omega arith in
    missing steps rest ms inv.begins text c.args.count is small inv.moves c.loop-number.number inv.count
    c.loop-number-test.true c.in_default.ensures

pub returns-in-None : goal.returns-in-None
returns-in-None c text is =
    let steps = c.args.steps.now in
    let rest = c.loop-number.rest.now in
    let ms = c.loop-number.plan in
    let inv = c.loop-number.invariant in
    let small : c.args.count < 2 ^ 32 = omega arith in
    let number = c.loop-number.number in
    let line = c.in-Some.line.now in
    let none = subst (IsStepIn (number + 1) line) c.in-None.is c.in_ok-mv.ensures in
    no_step steps rest ms inv.begins text c.args.count is small inv.moves number inv.count c.loop-number-test.true
    line c.in-Some.after.now c.in-Some.ensures.0 c.in-Some.ensures.1 none

pub loop-number-preserved : goal.loop-number-preserved
loop-number-preserved c =
    let ms = c.loop-number.plan in
    let inv = c.loop-number.invariant in
    let number = c.loop-number.number in
    let line = c.in-Some.line.now in
    let after = c.in-Some.after.now in
    let mv = c.in-Some-2.mv in
    let new = c.push.new.self in
    let push = c.in_ok-push-in-Some-2.ensures.ok in
    let step = subst (IsStepIn (number + 1) line) c.in-Some-2.is c.in_ok-mv.ensures in record {
      begins =
          steps_more c.args.steps.now c.loop-number.rest.now ms inv.begins line after mv number new c.in-Some.ensures.1 step.1
          inv.count push;
      count = omega (arith, ap length push, length-append ms (mv ∷ []), inv.count);
      moves = moves_more ms new mv push inv.moves step.0;
      short = omega (arith, ap length c.in-Some.ensures.1, length-append line (line_feed ∷ after), inv.short);
    }

pub returns-in-Other : goal.returns-in-Other
returns-in-Other c text is =
    let steps = c.args.steps.now in
    let rest = c.loop-number.rest.now in
    let ms = c.loop-number.plan in
    let inv = c.loop-number.invariant in
    let small : c.args.count < 2 ^ 32 = omega arith in
    let all : length ms ≡ c.args.count = omega (arith, inv.count) in
    other_end steps rest ms inv.begins text c.args.count is small inv.moves all c.in-Other.ensures
