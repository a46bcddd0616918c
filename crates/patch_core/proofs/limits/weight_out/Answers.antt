use Rattle.std.specs.Prelude.{◌≤◌, Option}
use Rattle.std.proofs.Common.{arith, subst}
use Rattle.conf_doc.specs.Document.{weight}
use Rattle.conf_doc.specs.Trees.{document}
use Rattle.conf_doc.specs.declared.trees.Tree.{Tree}
use Rattle.patch_core.specs.Measures.{weight_out}
use Rattle.patch_core.proofs.TreeLimits.{depth_weighs}
use Rattle.patch_core.proofs.limits.weight_out.Goals as goal

pub unreachable-requires : goal.unreachable-requires
unreachable-requires c =
    let light : weight (document c.in-Some.tree) ≤ c.args.most = subst (λ (g : Option Tree). weight_out g ≤ c.args.most) c.in-Some.is c.requires in
    omega (arith, light, c.in-None-left_after.ensures light, depth_weighs (document c.in-Some.tree))
