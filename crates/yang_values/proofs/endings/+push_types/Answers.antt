use Rattle.std.proofs.Common.{◌≡◌, ◌≤◌, map, ap, arith}
use Rattle.yang_text.specs.Declarations.{total_weight, weight}
use Rattle.yang_text.specs.Falls.{block_weighs}
use Rattle.yang_text.specs.Statements.{declaration}
use Rattle.yang_values.proofs.Weights.{weight-at}
use Rattle.yang_values.proofs.endings.+push_types.Goals as goal

pub push_types-requires : goal.push_types-requires
push_types-requires t c =
    let s = c.statement-item.result in
    let lighter : weight (declaration s) ≤ total_weight (map declaration c.args.statements.now) =
    weight-at c.args.statements.now c.loop-statement.statement-index s c.loop-statement-test.true c.statement-item.is in
    let inner : total_weight (map declaration c.items.result.now) ≡ total_weight s.block = ap total_weight c.items.ensures in
    (omega (arith, lighter, inner, block_weighs s.block), tt)
