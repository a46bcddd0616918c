use Rattle.std.proofs.Common.{map, reverse}
use Rattle.yang_types.specs.DataTypes.{data_type}
use Rattle.yang_values.specs.Walks.{IsTaken}
use Rattle.yang_values.proofs.type_values.take_types.Given as goal

abbrev pub invariant-loop-i : goal.invariant-loop-i
invariant-loop-i l = IsTaken l.i (reverse (map data_type l.fn.types.items)) (map data_type l.taken.items) (reverse (map data_type l.types.items))
