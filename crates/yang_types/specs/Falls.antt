-- A type weighs more than what stands in it.
use Rattle.std.specs.Prelude.{◌≤◌, List, [], ◌∷◌, map, max}
use Rattle.std.proofs.Common.{arith}
use Rattle.yang_types.specs.DataType.{types_of, types_weight, type_weight}
use Rattle.yang_types.specs.DataTypes.{data_type}
use Rattle.yang_types.specs.declared.types.Ty.{Ty}
use Rattle.yang_types.specs.declared.types.Ty.TheVariants.{Text, Number, Length, Range, Match, OneOf, Truth, Builtin, Ref, Union}
use Rattle.yang_types.specs.declared.types.TyBox.TheDeep.{deep-Ty}
use denote.Param.Weighed.{most, w_this}

-- a type is no deeper than it is heavy
pub deep_weight : (t : Ty) → deep-Ty t ≤ type_weight (data_type t)
deep_weight Text = omega arith
deep_weight (Number b) = omega arith
deep_weight (Length t bs) = omega arith
deep_weight (Range t bs) = omega arith
deep_weight (Match t p) = omega arith
deep_weight (OneOf names) = omega arith
deep_weight Truth = omega arith
deep_weight (Builtin b) = omega arith
deep_weight (Ref target t) = omega arith
deep_weight (Union ts) = omega arith

-- what stands in a box
pub type_falls : (t : Ty) → max (deep-Ty t) 0 ≤ type_weight (data_type t)
type_falls t = omega (arith, deep_weight t)

-- what stands in a list
pub types_fall :
    (ts : List Ty)
    → max (most (λ t. w_this.weight _ deep-Ty t) ts) 0
    ≤ types_weight (types_of (map data_type ts))
types_fall [] = omega arith
types_fall (t ∷ ts) = omega (arith, types_fall ts, deep_weight t)
