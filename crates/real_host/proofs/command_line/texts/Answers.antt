use Rattle.std.proofs.Common.{map, ap, sym, ◌∙◌, string_bytes}
use Rattle.std.specs.Vec.Iter.{into_iter_items, into_iter_len}
use Rattle.std.proofs.lemmas.List.{map-id}
use Rattle.std.proofs.lemmas.Iterator.Adapters.{YieldsList-from_vec}
use Rattle.std.proofs.lemmas.Iterator.Consumers.{YieldsList-end}
use Rattle.real_host.proofs.command_line.texts.Goals as goal

-- at the end every word was taken
pub returns : goal.returns
returns c =
    let same = c.into_iter-word-iterator.ensures.into_iter_gives in
    let all = YieldsList-from_vec (into_iter_items c.args.all) (ap into_iter_items same) (ap into_iter_len same ∙ c.args.all.rest.ok.0) in
    let end = YieldsList-end all c.loop-word.yielded c.loop-word.word-iterator c.loop-word.yielded_by c.next.result c.next.new.self c.in-None.is c.next.ensures.steps in
    c.loop-word.invariant ∙ ap (map string_bytes) (sym (map-id c.loop-word.yielded) ∙ end.0)
