use Rattle.std.proofs.Common.{◌≡◌, take}
use Rattle.std.specs.List.{flat_map}
use Rattle.yang_text.specs.Statements.{declaration}
use Rattle.yang_values.specs.TypeValues.{enum_name}
use Rattle.yang_values.proofs.named_types.enum_names.Given as goal

abbrev pub invariant-loop-child : goal.invariant-loop-child
invariant-loop-child l = l.enums ≡ flat_map (λ s. enum_name (declaration s)) (take l.child-index l.child-items)
