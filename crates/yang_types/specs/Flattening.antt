-- The form in which a type is stored: a leafref has no leafref within it, and no union stands right within another.
use Rattle.std.specs.Prelude.{List, [], ◌++◌}
use Rattle.yang_types.specs.DataType.{DataType, text, number, length_within, value_within, matching, one_of, truth, builtin, leafref, union, DataTypes, no_types, type_and, members, plain, types_of}

abbrev mutual
  -- a leafref keeps of the type of its leaf what that accepts by itself, and a union has in the place
  -- of a member that is a union that one's members
  pub flat : DataType → DataType
  flat text = text
  flat (number b) = number b
  flat (length_within t bs) = length_within (flat t) bs
  flat (value_within t bs) = value_within (flat t) bs
  flat (matching t p) = matching (flat t) p
  flat (one_of names) = one_of names
  flat truth = truth
  flat (builtin b) = builtin b
  flat (leafref target t) = leafref target (plain (flat t))
  flat (union ts) = union (types_of (flat_members ts))

  -- what several types are as members of a union
  pub flat_members : DataTypes → List DataType
  flat_members no_types = []
  flat_members (type_and t ts) = members (flat t) ++ flat_members ts
