use Rattle.std.proofs.Common.{◌≡◌, ◌++◌, string_bytes, drop}
use Rattle.yang_text.specs.Building.{join}
use Rattle.yang_text.proofs.building.push_parts.Given as goal

abbrev pub invariant-loop-part : goal.invariant-loop-part
invariant-loop-part l = string_bytes l.out ++ join l.text (drop l.part-index l.parts) ≡ string_bytes l.fn.out ++ join l.text l.parts
