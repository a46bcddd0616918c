use Rattle.std.proofs.Common.{length, sym, ap, arith}
use Rattle.yang_text.specs.Statements.{declaration}
use Rattle.yang_values.proofs.EqualStatements.{lengths-differ, member_weight, length-map, block_weighs}
use Rattle.yang_values.proofs.sameness.+comparing.Goals as goal

pub same_block-returns-then-statements-others : goal.same_block-returns-then-statements-others
same_block-returns-then-statements-others t c =
    sym (lengths-differ c.args.one.now c.args.other.now
    (λ e. omega (arith, ap length c.items-statements.ensures, ap length c.items-others.ensures, length-map declaration c.items-statements.result.now, length-map declaration c.items-others.result.now)))

pub same_block-same_declaration-requires : goal.same_block-same_declaration-requires
same_block-same_declaration-requires t c =
    let w = member_weight declaration c.items-statements.result.now c.args.one.now c.loop-i.i c.index-statements-i.result c.items-statements.ensures c.loop-i-test.true c.index-statements-i.is in
    (omega arith, tt)

pub same_declaration-same_block-requires : goal.same_declaration-same_block-requires
same_declaration-same_block-requires t c =
    let w = block_weighs c.args.one.now.block in
    (omega arith, tt)
