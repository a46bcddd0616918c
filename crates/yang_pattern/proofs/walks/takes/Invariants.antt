use Rattle.std.proofs.Common.{◌↔◌, IsUtf8, chars}
use Rattle.std.specs.Str.Iter.{chars_rest}
use Rattle.yang_pattern.specs.PlaceSets.{contains}
use Rattle.yang_pattern.specs.Machine.{machine_of, From, Takes}
use Rattle.yang_pattern.specs.Symbols.{reads_token}
use Rattle.yang_pattern.proofs.walks.takes.Given as goal

abbrev pub invariant-loop-c : goal.invariant-loop-c
invariant-loop-c l = IsUtf8 (chars_rest l.c-iterator)
    × (From (machine_of (reads_token l.tokens) l.fragment) (contains l.reached.next) l.reached.ended (chars (chars_rest l.c-iterator))
    ↔ Takes (machine_of (reads_token l.tokens) l.fragment) (chars l.fn.text))
