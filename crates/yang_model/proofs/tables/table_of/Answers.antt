use Rattle.std.proofs.Common.{arith}
use Rattle.yang_model.proofs.Sizes.{few_shapes}
use Rattle.yang_model.proofs.tables.table_of.Goals as goal

pub invariant_of-result : goal.invariant_of-result
invariant_of-result c = record { few = omega (arith, few_shapes c.args.table.now, c.in_ok-shapes.ensures.count, c.requires.few) }
