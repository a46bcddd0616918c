use Rattle.std.proofs.Common.{refl}
use Rattle.conf_doc.proofs.Segments.{same_blocks}
use Rattle.conf_doc.proofs.entries.Entries.count_in_blocks.Goals as goal

pub returns-then-is_same : goal.returns-then-is_same
returns-then-is_same c =
    let is = c.if-is_same.ensures in
    same_blocks _ _ _ _ _ _ c.in-Some-Some.ensures c.in-Some-Some.ensures' (is.count refl) (is.text refl)
