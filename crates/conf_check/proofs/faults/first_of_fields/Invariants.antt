use Rattle.std.proofs.Common.{◌<◌, ℕ}
use Rattle.conf_check.specs.Faults.{FieldsBreak}
use Rattle.conf_check.specs.declared.violations.RuleName.{RuleName}
use Rattle.conf_check.proofs.faults.first_of_fields.Given as goal

abbrev pub invariant-loop-i : goal.invariant-loop-i
invariant-loop-i l = (r : RuleName) (n : ℕ) → n < l.i → ¬ FieldsBreak l.models l.config l.shape l.fields r n
