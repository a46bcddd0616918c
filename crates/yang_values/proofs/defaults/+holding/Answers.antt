use Rattle.std.proofs.Common.{arith}
use Rattle.yang_types.proofs.Unions.{member_weight}
use Rattle.yang_values.proofs.defaults.+holding.Goals as goal

pub have_leafref-has_leafref-requires : goal.have_leafref-has_leafref-requires
have_leafref-has_leafref-requires t c =
    let w = member_weight c.items-members.result.now c.args.types.now c.loop-ty.ty-index c.ty-item.result c.items-members.ensures c.loop-ty-test.true c.ty-item.is in
    (omega arith, tt)
