use Rattle.std.proofs.Common.{◌≡◌, ◌++◌, false, option_map, IsUtf8, chars}
use Rattle.std.specs.Str.Iter.{chars_rest}
use Rattle.yang_pattern.specs.Letters.{letters_from}
use Rattle.yang_pattern.proofs.letters.read_letters.Given as goal

abbrev pub invariant-loop-c : goal.invariant-loop-c
invariant-loop-c l = record {
  text : IsUtf8 (chars_rest l.c-iterator);
  rest : option_map (λ ls. l.letters.items ++ ls) (letters_from l.after_backslash (chars (chars_rest l.c-iterator))) ≡ letters_from false (chars l.fn.text);
}
