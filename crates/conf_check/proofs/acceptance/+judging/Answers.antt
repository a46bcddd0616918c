use Rattle.std.proofs.Common.{◌≡◌, true, ◌∙◌, arith}
use Rattle.conf_check.specs.declared.acceptance.Verdict.TheVariants.{Refused}
use Rattle.conf_check.proofs.UnionVerdicts.{member_weight, judged_after, judged_past}
use Rattle.conf_check.proofs.acceptance.+judging.Goals as goal

pub judge_any-judge-verdict-requires : goal.judge_any-judge-verdict-requires
judge_any-judge-verdict-requires t c =
    let w = member_weight c.items-members.result.now c.args.types.now c.loop-ty.ty-index c.ty-item.result c.items-members.ensures c.loop-ty-test.true c.ty-item.is in
    (omega arith, tt)

pub judge_any-loop-ty-preserved : goal.judge_any-loop-ty-preserved
judge_any-loop-ty-preserved t c = λ v judged.
    c.loop-ty.invariant v
    (judged_after c.args.models.now c.args.config.now c.args.text.now c.items-members.result.now c.loop-ty.ty-index c.ty-item.result
    c.judge-verdict.result v c.loop-ty-test.true c.ty-item.is
    (λ e. let h : c.is_accepted.result ≡ true = c.is_accepted.ensures ∙ e in cc) c.judge-verdict.ensures judged)

pub judge_any-returns : goal.judge_any-returns
judge_any-returns t c =
    c.loop-ty.invariant Refused (judged_past c.args.models.now c.args.config.now c.args.text.now c.items-members.result.now c.loop-ty.ty-index c.loop-ty-test.false)
