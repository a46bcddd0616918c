use Rattle.std.proofs.Common.{◌≡◌, ◌≤◌, ◌+◌, ◌*◌, drop, map}
use Rattle.yang_types.specs.DataType.{types_of, types_weight, type_weight}
use Rattle.yang_types.specs.DataTypes.{data_type}
use Rattle.yang_values.specs.Defaults.{has_leafref, have_leafref}
use Rattle.yang_values.proofs.defaults.+holding.Given as goal

abbrev pub decreases-have_leafref : goal.decreases-have_leafref
decreases-have_leafref l = 2 * types_weight (types_of l.types.now) + 1

abbrev pub decreases-has_leafref : goal.decreases-has_leafref
decreases-has_leafref l = 2 * type_weight (data_type l.ty.now)

abbrev pub invariant-have_leafref-loop-ty : goal.invariant-have_leafref-loop-ty
invariant-have_leafref-loop-ty l = have_leafref (types_of l.types) ≡ have_leafref (types_of (map data_type (drop l.ty-index l.members)))

abbrev pub invariant-has_leafref-loop-at : goal.invariant-has_leafref-loop-at
invariant-has_leafref-loop-at l = record {
  same : has_leafref (data_type l.at) ≡ has_leafref (data_type l.fn.ty);
  within : type_weight (data_type l.at) ≤ type_weight (data_type l.fn.ty);
}

abbrev pub decreases-has_leafref-loop-at : goal.decreases-has_leafref-loop-at
decreases-has_leafref-loop-at l = type_weight (data_type l.at)
