use Rattle.std.specs.Str.Iter.{chars_rest}
use Rattle.yang_pattern.proofs.Scanning.{IsAt}
use Rattle.yang_pattern.proofs.faults.find_fault.Given as goal

abbrev pub invariant-loop-c : goal.invariant-loop-c
invariant-loop-c l = IsAt l.fn.text (chars_rest l.c-iterator) l.at l.whole l.scan
