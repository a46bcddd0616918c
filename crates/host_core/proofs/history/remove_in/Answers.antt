use Rattle.std.proofs.Common.{None, sym, ◌∙◌}
use Rattle.host_core.specs.State.{with_file}
use Rattle.host_core.proofs.EntriesOfFiles.{content_back, content_there}
use Rattle.host_core.proofs.history.remove_in.Goals as goal

pub returns-in-None-clause-undo : goal.returns-in-None-clause-undo
returns-in-None-clause-undo c =
    let name = c.as_str.result.now in
    c.take.ensures.after ∙ (λ i. with_file name (c.in-None.ensures.old i) c.args.files.now) ∙ content_there name c.args.files.now

pub returns-in-Some-clause-undo : goal.returns-in-Some-clause-undo
returns-in-Some-clause-undo c =
    (λ i. with_file (sym c.as_str.ensures.text i) (c.in-Some.ensures.old i) (c.take.ensures.after i))
    ∙ content_back c.as_str.result.now None c.args.files.now
