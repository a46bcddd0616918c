use Rattle.std.proofs.Common.{◌≡◌, ◌≤◌, drop, slice_range}
use Rattle.yang_text.specs.Building.{build, nothing, progress}
use Rattle.yang_text.proofs.building.read_signs.Given as goal

abbrev pub invariant-loop-i : goal.invariant-loop-i
invariant-loop-i l = record {
  start : l.start ≤ l.i;
  rest : build l.text (progress l.reader (slice_range l.tokens l.start l.i)) (drop l.i l.tokens) ≡ build l.text nothing l.tokens;
}
