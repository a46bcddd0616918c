use Rattle.std.proofs.Common.{◌≤◌, subst, arith}
use Rattle.std.proofs.lemmas.Result.{IfOk-weaker}
use Rattle.checkpoints.specs.TreeTexts.{ReadsAs}
use Rattle.checkpoints.specs.Formats.{greatest_number}
use Rattle.checkpoints.proofs.FileTexts.{point_held, point_not_old}
use Rattle.checkpoints.proofs.writing.point_bytes.Goals as goal

pub returns-clause-content : goal.returns-clause-content
returns-clause-content c =
    let most : c.args.number ≤ greatest_number = omega (arith, c.ranges.number.fits) in
    IfOk-weaker c.pretty_bytes.result _ _
    (λ b reads. point_held c.args.config.now c.args.number c.in_ok-tree.ensures.formed most b.items (subst (ReadsAs b.items) c.in_ok-tree.ensures.tree reads))
    c.pretty_bytes.ensures.reads_back

pub returns-clause-format : goal.returns-clause-format
returns-clause-format c =
    let most : c.args.number ≤ greatest_number = omega (arith, c.ranges.number.fits) in
    IfOk-weaker c.pretty_bytes.result _ _
    (λ b reads. point_not_old c.args.config.now c.args.number c.in_ok-tree.ensures.formed most b.items (subst (ReadsAs b.items) c.in_ok-tree.ensures.tree reads))
    c.pretty_bytes.ensures.reads_back
