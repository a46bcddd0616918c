use Rattle.std.proofs.Common.{refl}
use Rattle.conf_doc.proofs.Segments.{same_keys}
use Rattle.conf_doc.proofs.entries.Entries.count_keys_in_blocks.Goals as goal

pub returns-then-has_same_keys : goal.returns-then-has_same_keys
returns-then-has_same_keys c =
    let is = c.if-has_same_keys.ensures in
    same_keys _ _ _ _ _ _ c.in-Some-Some.ensures c.in-Some-Some.ensures' (is.count refl) (is.keys refl)
