use Rattle.std.proofs.Common.{ap, sym, ◌∙◌}
use Rattle.std.specs.Prelude.{option_map}
use Rattle.std.specs.FinMap as finmap
use Rattle.host_core.specs.Entries.{files_in}
use Rattle.host_core.proofs.EntriesOfFiles.{get-files_in, files_in-remove}
use Rattle.host_core.proofs.named_bytes.NamedBytes.take.Goals as goal

pub returns-clause-old : goal.returns-clause-old
returns-clause-old c =
    ap (option_map (λ v. v.items)) c.remove.ensures.value
    ∙ sym (get-files_in c.self.inside.entries.entries c.args.name.now)
    ∙ ap (λ m. finmap.get m c.args.name.now) c.self.view_is

pub returns-clause-after : goal.returns-clause-after
returns-clause-after c =
    ap files_in c.remove.ensures.entries
    ∙ files_in-remove c.self.inside.entries.entries c.args.name.now c.len.ensures.ordered
    ∙ ap (λ m. finmap.remove m c.args.name.now) c.self.view_is
