use Rattle.std.proofs.Common.{◌≡◌, ◌++◌, take}
use Rattle.std.specs.List.{flat_map}
use Rattle.std.specs.Option.{option_to_list}
use Rattle.yang_values.specs.Parts.{common_part}
use Rattle.yang_values.proofs.parts.push_common.Given as goal

abbrev pub invariant-loop-other : goal.invariant-loop-other
invariant-loop-other l = l.found ≡ l.fn.found ++ flat_map (λ b. option_to_list (common_part l.one b)) (take l.other-index l.others)
