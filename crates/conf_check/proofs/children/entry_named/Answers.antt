use Rattle.std.proofs.Common.{◌<◌, ◌≤◌, Some, ap, sym, ◌∙◌, subst}
use Rattle.conf_check.specs.NodeTrees.{keys_in}
use Rattle.conf_check.proofs.EntryNodes.{is_first, none_left, not_first}
use Rattle.conf_check.proofs.children.entry_named.Goals as goal

pub returns-then-is_named_at-clause-first : goal.returns-then-is_named_at-clause-first
returns-then-is_named_at-clause-first c =
    let s = c.args.nodes.now in
    let lt = subst (λ n. c.loop-key.key < n) c.count_keys-key-end.ensures c.loop-key-test.true in
    ap Some c.entry_node.ensures
    ∙ sym
    (c.loop-key.invariant
    ∙ is_first s.models.now s.config.now s.known.0 c.args.table c.args.name.now (keys_in s c.args.table) c.loop-key.key lt (sym c.if-is_named_at.ensures))

pub loop-key-preserved : goal.loop-key-preserved
loop-key-preserved c =
    let s = c.args.nodes.now in
    let lt = subst (λ n. c.loop-key.key < n) c.count_keys-key-end.ensures c.loop-key-test.true in
    c.loop-key.invariant
    ∙ not_first s.models.now s.config.now s.known.0 c.args.table c.args.name.now (keys_in s c.args.table) c.loop-key.key lt (sym c.if-is_named_at.ensures)

pub returns-clause-first : goal.returns-clause-first
returns-clause-first c =
    let s = c.args.nodes.now in
    let le = subst (λ n. n ≤ c.loop-key.key) c.count_keys-key-end.ensures c.loop-key-test.false in
    sym
    (c.loop-key.invariant
    ∙ none_left s.models.now s.config.now s.known.0 c.args.table c.args.name.now (keys_in s c.args.table) c.loop-key.key le)
