use Rattle.std.proofs.Common.{◌≡◌, ◌++◌, false, string_bytes, IsUtf8}
use Rattle.std.specs.Str.Iter.{chars_rest}
use Rattle.yang_text.specs.Texts.{unescape}
use Rattle.yang_text.proofs.building.push_unescaped.Given as goal

abbrev pub invariant-loop-c : goal.invariant-loop-c
invariant-loop-c l = record {
  text : IsUtf8 (chars_rest l.c-iterator);
  rest : string_bytes l.out ++ unescape l.after_backslash (chars_rest l.c-iterator) ≡ string_bytes l.fn.out ++ unescape false l.fn.text;
}
