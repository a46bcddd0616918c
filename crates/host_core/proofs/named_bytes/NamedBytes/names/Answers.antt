use Rattle.std.proofs.Common.{rules, ap, sym, ◌∙◌, ◌≡◌, map}
use Rattle.std.specs.Prelude.{string_bytes}
use Rattle.std.specs.FinMap as finmap
use Rattle.std.specs.BTreeMap.{keys}
use Rattle.std.specs.Map.Iter.{deref}
use Rattle.std.proofs.lemmas.Map.Iter.{iter_end}
use Rattle.std.proofs.lemmas.Simd.{map-map}
use Rattle.host_core.proofs.EntriesOfFiles.{keys-files_in}
use Rattle.host_core.proofs.named_bytes.NamedBytes.names.Goals as goal

pub returns : goal.returns
returns c =
    let all : map deref c.loop-name.yielded ≡ keys c.self.inside.entries = search (rules, iter_end) in
    c.loop-name.invariant
    ∙ sym (map-map string_bytes deref c.loop-name.yielded)
    ∙ ap (map string_bytes) all
    ∙ sym (keys-files_in c.self.inside.entries.entries c.keys-name-items.ensures.ordered)
    ∙ ap finmap.keys c.self.view_is
