-- How what is stored and the goal of a plan are refused.
use Rattle.std.specs.Prelude.{ℕ, List, IfSome}
use Rattle.conf_doc.specs.declared.configuration.Config.{Config}
use Rattle.conf_check.specs.declared.violations.RuleName.{RuleName}
use Rattle.yang_model.specs.ModelSets.{ModelSet}
use Rattle.gcu_output.specs.declared.outcomes.Outcome.{Outcome}
use Rattle.gcu_output.specs.declared.outcomes.Outcome.TheVariants.{CurrentInvalid, TargetInvalid}
use Rattle.gcu_inputs.specs.Preparing.{refusal}
use Rattle.gcu_requests.specs.Checking.{IsInvalidAs}
use Rattle.gcu_requests.specs.declared.judging.End.{End}
use Rattle.gcu_requests.specs.declared.judging.End.TheVariants.{Start, Goal}

-- the refusal of a violation of that end of a plan
abbrev pub answer_of : End → List ℕ → RuleName → Outcome
answer_of Start place rule = CurrentInvalid place rule
answer_of Goal place rule = TargetInvalid place rule

-- of that end the first violation is told, unless memory is wanting
abbrev pub TellsFirst : End → ModelSet → Config → Outcome → Type 0
TellsFirst end models config e =
    IfSome (refusal e) (IsInvalidAs (answer_of end) models config)
