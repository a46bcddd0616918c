-- The data type that a `Ty` is.
use Rattle.yang_types.specs.DataType.{DataType, text, number, length_within, value_within, matching, one_of, truth, builtin, leafref, union, types_of}
use Rattle.yang_types.specs.declared.types.Ty.{Ty}
use Rattle.yang_types.specs.declared.types.Ty.TheVariants.{Text, Number, Length, Range, Match, OneOf, Truth, Builtin, Ref, Union}

-- a `Ty` without its memory
abbrev pub data_type : Ty → DataType
data_type Text = text
data_type (Number b) = number b
data_type (Length t bs) = length_within t bs
data_type (Range t bs) = value_within t bs
data_type (Match t pattern) = matching t pattern
data_type (OneOf names) = one_of names
data_type Truth = truth
data_type (Builtin b) = builtin b
data_type (Ref target t) = leafref target t
data_type (Union ts) = union (types_of ts)
