use Rattle.std.proofs.Common.{ap, refl, subst}
use Rattle.conf_doc.specs.Blocks.{AreSame}
use Rattle.conf_doc.proofs.Segments.{same_block}
use Rattle.conf_doc.proofs.blocks.place_of.Goals as goal

pub returns-then-are_same : goal.returns-then-are_same
returns-then-are_same c =
    let same =
    subst (AreSame c.args.list.now c.in-Ok.start c.args.other.now c.args.placed.now.start) (ap (λ b. b.count) c.as_ref.ensures)
    (c.if-are_same.ensures refl) in
    same_block c.args.list.now c.args.other.now c.in-Ok.start c.args.placed.now.start c.args.placed.now.block.value same c.requires.block
