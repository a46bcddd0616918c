use Rattle.std.proofs.Common.{ap, sym, ◌∙◌}
use Rattle.host_core.proofs.EntriesOfFiles.{with_pairs, with_pairs-push, with_pairs-empty}
use Rattle.host_core.proofs.named_bytes.NamedBytes.of_pairs.Goals as goal

pub loop-name-init : goal.loop-name-init
loop-name-init c = ap (with_pairs c.args.pairs.items) c.new-all.ensures ∙ with_pairs-empty c.args.pairs.items

pub loop-name-preserved-in_ok-put : goal.loop-name-preserved-in_ok-put
loop-name-preserved-in_ok-put c =
    ap (with_pairs c.pop.new.self.items) c.in_ok-put.ensures.ok
    ∙ sym (with_pairs-push c.pop.new.self.items (c.in-Some.name, c.in-Some.bytes) c.loop-name.all)
    ∙ ap (λ ps. with_pairs ps c.loop-name.all) (sym c.in-Some.ensures.items) ∙ c.loop-name.invariant

pub loop-name-preserved : goal.loop-name-preserved
loop-name-preserved c =
    ap (with_pairs c.pop.new.self.items) c.in_ok-put.ensures.ok
    ∙ sym (with_pairs-push c.pop.new.self.items (c.in-Some.name, c.in-Some.bytes) c.loop-name.all)
    ∙ ap (λ ps. with_pairs ps c.loop-name.all) (sym c.in-Some.ensures.items) ∙ c.loop-name.invariant
