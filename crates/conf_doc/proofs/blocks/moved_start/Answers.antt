use Rattle.std.proofs.Common.{ap, arith}
use Rattle.conf_doc.proofs.Segments.{edited_length, moved_behind, moved_front}
use Rattle.conf_doc.proofs.blocks.moved_start.Goals as goal

pub returns-then-count-at : goal.returns-then-count-at
returns-then-count-at c =
    let count = ap (λ b. b.count) c.as_ref.ensures in
    moved_front _ _ _ _ _ _ _ c.requires.edited c.requires.block (omega (arith, count))

pub overflow_add-result-2 : goal.overflow_add-result-2
overflow_add-result-2 c =
    let long = edited_length _ _ _ _ _ c.requires.edited in
    let within = c.requires.block.within in
    omega (arith, long, within)

pub returns : goal.returns
returns c = moved_behind _ _ _ _ _ _ _ c.requires.edited c.requires.block (omega arith)
