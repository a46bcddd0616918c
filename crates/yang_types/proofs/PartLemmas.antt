-- Each kind of part is not empty and lacks its separator.
use Rattle.std.proofs.Common.{◌≡◌, ℕ, ◌<◌, eqb, false, List, get_or, arith, lit<}
use Rattle.std.specs.List.{All}
use Rattle.std.specs.Char.{IsAsciiHexdigit}
use Rattle.std.specs.Str.Parse.{AllDigits}
use Rattle.std.specs.Int.{IsInRange}
use Rattle.std.proofs.lemmas.Str.Parse.{digit_at}
use Rattle.std.proofs.lemmas.List.Elements.{All-weaker, All-from_get_or}
use Rattle.std.proofs.lemmas.Bool.Decides.{nat_tests}
use Rattle.yang_types.specs.declared.addresses.Part.{Part}
use Rattle.yang_types.specs.declared.addresses.Part.TheVariants.{Octet, Group, Pair}
use Rattle.yang_types.specs.Parts.{IsPart, separator_of}
use Rattle.yang_types.proofs.PartJoins.{StandsApart}

digit_lacks : (b : ℕ) → IsInRange 48 57 b → eqb b 46 ≡ false
digit_lacks b range = grind (arith, nat_tests)

digits_lack : (s : List ℕ) → AllDigits 10 s → All (λ b. eqb b 46 ≡ false) s
digits_lack s digits = All-from_get_or (λ b. eqb b 46 ≡ false) s 0 (λ i below. digit_lacks (get_or s i 0) (digit_at s i digits below))

hex_lacks : (b : ℕ) → IsAsciiHexdigit b → eqb b 58 ≡ false
hex_lacks b hex = grind (arith, nat_tests)

-- parts of each kind can be told apart by their separator
pub stand_apart : (part : Part) → StandsApart (IsPart part) (separator_of part)
stand_apart Octet = record { full = λ s h. h.0.0; lacks = λ s h. digits_lack s h.0.1 }
stand_apart Group = record { full = λ s h. omega arith; lacks = λ s h. All-weaker IsAsciiHexdigit (λ b. eqb b 58 ≡ false) hex_lacks s h.0 }
stand_apart Pair = record { full = λ s h. omega arith; lacks = λ s h. All-weaker IsAsciiHexdigit (λ b. eqb b 58 ≡ false) hex_lacks s h.0 }

pub separator_ascii : (part : Part) → separator_of part < 128
separator_ascii Octet = lit< tt
separator_ascii Group = lit< tt
separator_ascii Pair = lit< tt
