use Rattle.std.proofs.Common.{◌≡◌, ◌++◌, map}
use Rattle.std.specs.List.{flat_map}
use Rattle.yang_types.specs.DataType.{plain_members}
use Rattle.yang_types.specs.DataTypes.{data_type}
use Rattle.yang_values.proofs.named_types.plain_members_of.Given as goal

abbrev pub invariant-loop-ty : goal.invariant-loop-ty
invariant-loop-ty l = flat_map plain_members (map data_type l.fn.types.items) ≡ l.all ++ flat_map plain_members (map data_type l.ty-iterator.rest.items)
