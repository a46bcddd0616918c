use Rattle.std.proofs.Common.{ap, sym, ◌∙◌}
use Rattle.std.specs.Prelude.{option_map, string_bytes}
use Rattle.std.specs.FinMap as finmap
use Rattle.host_core.specs.Entries.{files_in}
use Rattle.host_core.proofs.EntriesOfFiles.{get-files_in, files_in-insert}
use Rattle.host_core.proofs.named_bytes.NamedBytes.put.Goals as goal

pub returns-clause-old : goal.returns-clause-old
returns-clause-old c =
    ap (option_map (λ v. v.items)) c.in_ok-insert.ensures.old
    ∙ sym (get-files_in c.self.inside.entries.entries (string_bytes c.into_string.result))
    ∙ (λ i. finmap.get (c.self.view_is i) (c.into_string.ensures i))

pub returns-clause-ok : goal.returns-clause-ok
returns-clause-ok c =
    ap files_in c.in_ok-insert.ensures.entries
    ∙ files_in-insert c.self.inside.entries.entries c.into_string.result c.args.bytes
    ∙ (λ i. finmap.insert (c.self.view_is i) (c.into_string.ensures i) c.args.bytes.items)
