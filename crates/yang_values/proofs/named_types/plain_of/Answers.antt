use Rattle.std.proofs.Common.{◌∙◌, List, sym, ap}
use Rattle.std.specs.List.{flat_map}
use Rattle.yang_types.specs.DataType.{DataType, union, plain, plain_members, types_of}
use Rattle.yang_types.proofs.FlatTypes.{plain_back}
use Rattle.yang_values.proofs.FlatUnions.{plain_alone}
use Rattle.yang_types.specs.DataTypes.{data_type}
use Rattle.yang_values.proofs.named_types.plain_of.Goals as goal

pub returns-in_ok-flat-in-Ok : goal.returns-in_ok-flat-in-Ok
returns-in_ok-flat-in-Ok c =
    ap (λ (ts : List DataType). union (types_of ts))
    (c.in_ok-flat-in-Ok.ensures ∙ ap (flat_map plain_members) (c.into_items.ensures ∙ sym (plain_back c.in-Ok.types)))
    ∙ ap plain (sym c.in-Ok.ensures.union)

pub returns-in-Err : goal.returns-in-Err
returns-in-Err c =
    c.into_inner.ensures ∙ sym (plain_alone (data_type c.in-Err.ty) c.in-Err.ensures.other) ∙ ap plain c.in-Err.ensures.same
