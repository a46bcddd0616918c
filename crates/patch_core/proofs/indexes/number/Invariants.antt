use Rattle.std.proofs.Common.{◌≡◌, drop}
use Rattle.std.specs.Prelude.{fold}
use Rattle.patch_core.specs.Indexes.{number, with_digit}
use Rattle.patch_core.proofs.indexes.number.Given as goal

abbrev pub invariant-loop-digit : goal.invariant-loop-digit
invariant-loop-digit l = fold with_digit l.sum (drop l.digit-index l.digits) ≡ number l.digits
