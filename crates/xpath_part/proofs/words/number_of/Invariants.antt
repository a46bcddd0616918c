use Rattle.std.proofs.Common.{◌≡◌, ◌<◌, ◌^◌, drop}
use Rattle.xpath_part.specs.Words.{digits_value}
use Rattle.xpath_part.proofs.words.number_of.Given as goal

abbrev pub invariant-loop-digit : goal.invariant-loop-digit
invariant-loop-digit l = record {
  value : digits_value l.value (drop l.digit-index l.digits) ≡ digits_value 0 l.digits;
  below : l.value < 10 ^ l.digit-index;
}
