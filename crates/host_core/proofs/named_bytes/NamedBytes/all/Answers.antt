use Rattle.std.proofs.Common.{ap, sym, ◌∙◌}
use Rattle.std.specs.FinMap as finmap
use Rattle.host_core.proofs.EntriesOfFiles.{entries-files_in}
use Rattle.host_core.proofs.named_bytes.NamedBytes.all.Goals as goal

pub returns : goal.returns
returns c =
    sym (entries-files_in c.self.inside.entries.entries c.len.ensures.ordered)
    ∙ ap finmap.entries c.self.view_is
