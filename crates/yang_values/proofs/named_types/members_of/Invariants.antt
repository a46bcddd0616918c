use Rattle.std.proofs.Common.{◌≡◌, ◌++◌, map}
use Rattle.std.specs.List.{flat_map}
use Rattle.yang_types.specs.DataType.{members}
use Rattle.yang_types.specs.DataTypes.{data_type}
use Rattle.yang_values.proofs.named_types.members_of.Given as goal

abbrev pub invariant-loop-ty : goal.invariant-loop-ty
invariant-loop-ty l = flat_map members (map data_type l.fn.types.items) ≡ l.all ++ flat_map members (map data_type l.ty-iterator.rest.items)
