use Rattle.std.proofs.Common.{arith}
use Rattle.conf_doc.specs.Trees.{document}
use Rattle.patch_core.proofs.TreeLimits.{too_heavy}
use Rattle.patch_core.proofs.limits.perform_within.Goals as goal

pub invariant_of-result : goal.invariant_of-result
invariant_of-result c = record {
  exact = omega (arith, c.in_ok-tree.ensures.change.balances, c.weight_without-rest.ensures, c.in-Some.ensures.0, c.in-Some-sum_within.ensures.0, c.args.before.exact);
  light = c.in-Some-sum_within.ensures.1;
  shallow = omega (arith, c.in_ok-tree.ensures.change.deep, c.in-Some.ensures.2, c.args.before.shallow);
}

pub returns-in-None-sum_within : goal.returns-in-None-sum_within
returns-in-None-sum_within c =
    too_heavy _ (document c.in_ok-tree.field-0.tree) c.in_ok-tree.ensures.left
    (omega (arith, c.in_ok-tree.ensures.change.balances, c.weight_without-rest.ensures, c.in-Some.ensures.0, c.in-None-sum_within.ensures, c.args.before.exact))
