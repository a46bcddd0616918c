use Rattle.std.proofs.Common.{◌≡◌, take}
use Rattle.std.specs.List.{flat_map}
use Rattle.yang_values.specs.Parts.{common_with}
use Rattle.yang_values.proofs.parts.common.Given as goal

abbrev pub invariant-loop-part : goal.invariant-loop-part
invariant-loop-part l = l.found ≡ flat_map (common_with l.others) (take l.part-index l.parts)
