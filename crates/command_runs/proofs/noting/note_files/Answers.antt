use Rattle.std.proofs.Common.{◌≡◌, map, ap, ◌∙◌, rules}
use Rattle.std.specs.Map.Iter.{deref_pair}
use Rattle.std.proofs.lemmas.Map.Iter.{iter_end}
use Rattle.host_core.specs.Entries.{named}
use Rattle.command_runs.proofs.NotedFiles.{read_pairs}
use Rattle.command_runs.proofs.noting.note_files.Goals as goal

pub returns : goal.returns
returns c =
    let all : map deref_pair c.loop-name.yielded ≡ c.files-name-items.result.now.entries = search (rules, iter_end) in
    c.loop-name.invariant ∙ read_pairs c.loop-name.yielded ∙ ap (map named) all ∙ c.files-name-items.ensures
