use Rattle.std.proofs.Common.{◌≡◌, ◌≤◌, drop}
use Rattle.std.specs.Prelude.{fold}
use Rattle.std.specs.Char.{is_ascii_digit}
use Rattle.std.specs.List.{list_all}
use Rattle.patch_core.specs.Indexes.{number, with_digit}
use Rattle.gcu_words.proofs.digits.number_within.Given as goal

abbrev pub invariant-loop-digit : goal.invariant-loop-digit
invariant-loop-digit l = record {
  number_so_far : fold with_digit l.sum (drop l.digit-index l.digits) ≡ number l.digits;
  digits_so_far : list_all is_ascii_digit l.digits ≡ list_all is_ascii_digit (drop l.digit-index l.digits);
  small : l.sum ≤ l.most;
}
