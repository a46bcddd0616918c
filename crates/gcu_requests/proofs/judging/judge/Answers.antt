use Rattle.gcu_inputs.specs.Asking.{follows_by}
use Rattle.gcu_inputs.specs.Preparing.{refusal}
use Rattle.gcu_requests.specs.Judging.{answer_of}
use Rattle.gcu_requests.specs.PlanAsked.{IsValidOr}
use Rattle.gcu_inputs.proofs.Finding.{refusal_is_right}
use Rattle.gcu_requests.proofs.judging.judge.Goals as goal

pub returns-in-Err-clause-answer : goal.returns-in-Err-clause-answer
returns-in-Err-clause-answer c =
    refusal_is_right (refusal c.invalid.result)
    (follows_by (IsValidOr (answer_of c.args.end) c.args.ctx.now c.args.config.now)) c.invalid.ensures.answer
