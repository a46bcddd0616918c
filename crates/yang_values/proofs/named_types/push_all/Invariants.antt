use Rattle.std.proofs.Common.{◌≡◌, ◌++◌, map}
use Rattle.yang_types.specs.DataTypes.{data_type}
use Rattle.yang_values.proofs.named_types.push_all.Given as goal

abbrev pub invariant-loop-ty : goal.invariant-loop-ty
invariant-loop-ty l = l.initial.all ++ map data_type l.fn.types.items ≡ l.all ++ map data_type l.ty-iterator.rest.items
