use Rattle.std.proofs.Common.{◌+◌, ◌*◌, drop, map}
use Rattle.yang_types.specs.DataType.{types_of, types_weight, type_weight}
use Rattle.yang_types.specs.DataTypes.{data_type}
use Rattle.conf_check.specs.Verdicts.{IsVerdictOfAny}
use Rattle.conf_check.specs.declared.acceptance.Verdict.{Verdict}
use Rattle.conf_check.proofs.acceptance.+judging.Given as goal

abbrev pub decreases-judge : goal.decreases-judge
decreases-judge l = 2 * type_weight (data_type l.ty.now)

abbrev pub decreases-judge_any : goal.decreases-judge_any
decreases-judge_any l = 2 * types_weight (types_of l.types.now) + 1

-- what the members from here on say is what all of them say
abbrev pub invariant-judge_any-loop-ty : goal.invariant-judge_any-loop-ty
invariant-judge_any-loop-ty l =
    (v : Verdict) → IsVerdictOfAny l.models l.config (types_of (map data_type (drop l.ty-index l.members))) l.text v
    → IsVerdictOfAny l.models l.config (types_of l.types) l.text v
