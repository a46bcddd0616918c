-- The types of YANG (RFC 7950, section 9), without the memory that a `Ty` has.
use Rattle.std.specs.Prelude.{ℕ, suc, ◌+◌, List, [], ◌∷◌}
use Rattle.std.specs.List.{flat_map}
use Rattle.yang_types.specs.declared.types.Bounds.{Bounds}
use Rattle.yang_types.specs.declared.types.Builtin.{Builtin}
use Rattle.yang_types.specs.declared.types.Target.{Target}

mutual
  -- a pattern and a name are texts
  pub data DataType : Type 0 where
    text : DataType
    number : Bounds → DataType
    length_within : DataType → List Bounds → DataType
    value_within : DataType → List Bounds → DataType
    matching : DataType → List ℕ → DataType
    one_of : List (List ℕ) → DataType
    truth : DataType
    builtin : Builtin → DataType
    leafref : Target → DataType → DataType
    union : DataTypes → DataType

  -- a list of types
  pub data DataTypes : Type 0 where
    no_types : DataTypes
    type_and : DataType → DataTypes → DataTypes

-- types as a plain list
abbrev pub plain_types : DataTypes → List DataType
plain_types no_types = []
plain_types (type_and t ts) = t ∷ plain_types ts

-- the types of a plain list
abbrev pub types_of : List DataType → DataTypes
types_of [] = no_types
types_of (t ∷ ts) = type_and t (types_of ts)

-- the types that a type is as a member of a union: of a union its own members, in their order
-- (RFC 7950, section 9.12: a value is tried against the members one by one)
abbrev pub members : DataType → List DataType
members (union ts) = plain_types ts
members t = t ∷ []

-- of a leafref the type that stands in it
abbrev pub inner : DataType → DataType
inner (leafref target t) = t
inner t = t

-- what a type is as a member of a union that stands in a leafref
abbrev pub plain_members : DataType → List DataType
plain_members t = members (inner t)

-- what a type accepts by itself: of a leafref the type that stands in it, and of a union the members
-- that its members so are, in their order. Where no leafref stands within what stands in a leafref,
-- none stands in it, and no union right within another
abbrev pub plain : DataType → DataType
plain (union ts) = union (types_of (flat_map plain_members (plain_types ts)))
plain t = inner t

abbrev mutual
  -- how many types a type has in it, itself included
  pub type_weight : DataType → ℕ
  type_weight text = 1
  type_weight (number b) = 1
  type_weight (length_within t bs) = suc (type_weight t)
  type_weight (value_within t bs) = suc (type_weight t)
  type_weight (matching t p) = suc (type_weight t)
  type_weight (one_of names) = 1
  type_weight truth = 1
  type_weight (builtin b) = 1
  type_weight (leafref r t) = suc (type_weight t)
  type_weight (union ts) = suc (types_weight ts)

  -- and all of several
  pub types_weight : DataTypes → ℕ
  types_weight no_types = 0
  types_weight (type_and t ts) = type_weight t + types_weight ts
