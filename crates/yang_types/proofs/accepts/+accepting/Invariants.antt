use Rattle.std.proofs.Common.{◌+◌, ◌*◌, ◌≤◌, drop, map}
use Rattle.yang_types.specs.Accepts.{Accepts, AcceptsAny}
use Rattle.yang_types.specs.DataType.{types_of, types_weight, type_weight}
use Rattle.yang_types.specs.DataTypes.{data_type}
use Rattle.yang_types.proofs.accepts.+accepting.Given as goal

abbrev pub decreases-accepts_any : goal.decreases-accepts_any
decreases-accepts_any l = 2 * types_weight (types_of l.types.now) + 1

abbrev pub decreases-accepts_plain : goal.decreases-accepts_plain
decreases-accepts_plain l = 2 * type_weight (data_type l.ty.now)

-- what the types from here on accept is what all of them accept
abbrev pub invariant-accepts_any-loop-ty : goal.invariant-accepts_any-loop-ty
invariant-accepts_any-loop-ty l = AcceptsAny (types_of l.types) l.text → AcceptsAny (types_of (map data_type (drop l.ty-index l.members))) l.text

-- what the type here accepts, and what was passed, is what the whole type accepts
abbrev pub invariant-accepts_plain-loop-at : goal.invariant-accepts_plain-loop-at
invariant-accepts_plain-loop-at l = record {
  to : Accepts (data_type l.fn.ty) l.text → Accepts (data_type l.at) l.text;
  back : Accepts (data_type l.at) l.text → Accepts (data_type l.fn.ty) l.text;
  within : type_weight (data_type l.at) ≤ type_weight (data_type l.fn.ty);
}

abbrev pub decreases-accepts_plain-loop-at : goal.decreases-accepts_plain-loop-at
decreases-accepts_plain-loop-at l = type_weight (data_type l.at)
