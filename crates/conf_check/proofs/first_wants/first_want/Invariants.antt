use Rattle.std.proofs.Common.{◌*◌, ◌+◌, ◌-◌, ◌^◌, length}
use Rattle.conf_check.specs.Wants.{Want, IsPlaceBefore, IsWantAt}
use Rattle.conf_check.specs.declared.want_iter.WantPlace.{WantPlace}
use Rattle.conf_check.proofs.first_wants.first_want.Given as goal

abbrev pub invariant-loop-at : goal.invariant-loop-at
invariant-loop-at l = record {
  none : (p : WantPlace) (w : Want) → ¬ IsPlaceBefore p l.fn.from → IsPlaceBefore p l.at → ¬ IsWantAt l.models l.config p w;
  behind : ¬ IsPlaceBefore l.at l.fn.from;
}

abbrev pub decreases-loop-at : goal.decreases-loop-at
decreases-loop-at l = (length l.config - l.at.table) * 2 ^ 64 + (2 ^ 64 - l.at.key)
