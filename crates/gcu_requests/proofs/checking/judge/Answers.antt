use Rattle.gcu_inputs.specs.Asking.{follows_by}
use Rattle.gcu_inputs.specs.Preparing.{refusal}
use Rattle.gcu_requests.specs.Checking.{IsJudged}
use Rattle.gcu_inputs.proofs.Finding.{refusal_is_right}
use Rattle.gcu_requests.proofs.checking.judge.Goals as goal

pub returns-in-Err-clause-answer : goal.returns-in-Err-clause-answer
returns-in-Err-clause-answer c =
    refusal_is_right (refusal c.invalid.result) (follows_by (IsJudged c.args.models.now c.args.config.now))
    c.invalid.ensures.answer
