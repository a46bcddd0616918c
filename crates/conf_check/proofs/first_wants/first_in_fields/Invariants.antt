use Rattle.conf_check.proofs.WantSlots.{NoneBefore, BeginsWith}
use Rattle.conf_check.proofs.first_wants.first_in_fields.Given as goal

abbrev pub invariant-loop-field : goal.invariant-loop-field
invariant-loop-field l = record {
  none : NoneBefore l.models l.config l.shape l.fields l.fn.from l.fn.item l.field;
  begins : BeginsWith l.models l.config l.shape l.fields l.fn.from l.fn.item l.field l.first;
}
