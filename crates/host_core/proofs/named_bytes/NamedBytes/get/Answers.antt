use Rattle.std.proofs.Common.{Some, ap, sym, ◌∙◌}
use Rattle.std.specs.Prelude.{option_map}
use Rattle.std.specs.FinMap as finmap
use Rattle.host_core.proofs.EntriesOfFiles.{get-files_in}
use Rattle.host_core.proofs.named_bytes.NamedBytes.get.Goals as goal

pub returns-in-Some : goal.returns-in-Some
returns-in-Some c =
    ap Some c.as_slice.ensures.value
    ∙ ap (option_map (λ v. v.items)) c.in-Some.ensures.value
    ∙ sym (get-files_in c.self.inside.entries.entries c.args.name.now)
    ∙ ap (λ m. finmap.get m c.args.name.now) c.self.view_is

pub returns-in-None : goal.returns-in-None
returns-in-None c =
    ap (option_map (λ v. v.items)) c.in-None.ensures.value
    ∙ sym (get-files_in c.self.inside.entries.entries c.args.name.now)
    ∙ ap (λ m. finmap.get m c.args.name.now) c.self.view_is
