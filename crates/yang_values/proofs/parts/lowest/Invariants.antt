use Rattle.std.proofs.Common.{◌≡◌, None, take}
use Rattle.std.specs.List.{fold}
use Rattle.yang_values.specs.Parts.{lower}
use Rattle.yang_values.proofs.parts.lowest.Given as goal

abbrev pub invariant-loop-part : goal.invariant-loop-part
invariant-loop-part l = l.found ≡ fold lower None (take l.part-index l.parts)
