use Rattle.yang_types.specs.DataTypes.{data_type}
use Rattle.conf_check.specs.FirstWants.{IsWantedItem}
use Rattle.conf_check.proofs.WantSteps.{NoneBefore}
use Rattle.conf_check.proofs.first_wants.first_in_texts.Given as goal

abbrev pub invariant-loop-item : goal.invariant-loop-item
invariant-loop-item l = NoneBefore (IsWantedItem l.models l.config (data_type l.ty) l.texts) l.fn.from l.item
