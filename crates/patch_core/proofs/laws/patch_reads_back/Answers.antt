use Rattle.std.specs.Prelude.{◌++◌}
use Rattle.conf_doc.specs.Texts.{compact, line_feed}
use Rattle.patch_core.specs.Writing.{patch_document}
use Rattle.patch_core.proofs.PatchReadings.{patch-value}
use Rattle.patch_core.proofs.laws.patch_reads_back.Goals as goal

pub returns : goal.returns
returns c = λ ops sound fits.
    patch-value (compact (patch_document ops) ++ line_feed) ops (c.compact_reads_back.ensures.line (patch_document ops) sound fits)
