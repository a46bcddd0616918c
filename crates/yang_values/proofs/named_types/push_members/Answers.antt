use Rattle.std.proofs.Common.{◌≡◌, ◌++◌, ◌∙◌, IfOk, List, map, sym, ap, subst}
use Rattle.yang_types.specs.DataType.{DataType, members}
use Rattle.yang_types.specs.DataTypes.{data_type}
use Rattle.yang_types.proofs.FlatTypes.{plain_back}
use Rattle.yang_values.proofs.named_types.push_members.Goals as goal

pub returns-in-Ok : goal.returns-in-Ok
returns-in-Ok c =
    let same : map data_type c.into_items.result.items ≡ members (data_type c.args.ty) =
    c.into_items.ensures ∙ sym (plain_back c.in-Ok.types) ∙ ap members (sym c.in-Ok.ensures.union) in
    subst (λ (ts : List DataType). IfOk c.push_all.result (λ _. c.push_all.new.all ≡ c.args.all.now ++ ts)) same c.push_all.ensures
