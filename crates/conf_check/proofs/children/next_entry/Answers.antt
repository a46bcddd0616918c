use Rattle.std.proofs.Common.{◌≤◌, ◌∙◌, subst, arith}
use Rattle.conf_check.specs.NodeTrees.{keys_in}
use Rattle.conf_check.proofs.EntryNodes.{entry_next, entry_within}
use Rattle.conf_check.proofs.children.next_entry.Goals as goal

pub returns-then-entry-count_keys-clause-next : goal.returns-then-entry-count_keys-clause-next
returns-then-entry-count_keys-clause-next c =
    let s = c.args.nodes.now in
    c.entry_named.ensures.first
    ∙ entry_next s.models.now s.config.now s.known.0 c.args.table c.args.name.now (keys_in s c.args.table) c.args.i c.args.entry c.requires

pub returns-else-entry-count_keys-clause-next : goal.returns-else-entry-count_keys-clause-next
returns-else-entry-count_keys-clause-next c =
    let s = c.args.nodes.now in
    let le = subst (λ n. n ≤ c.args.entry.key) c.count_keys.ensures c.if-entry-count_keys.false in
    absurd (omega (arith, le, entry_within s.models.now s.config.now s.known.0 c.args.table c.args.name.now (keys_in s c.args.table) c.args.i c.args.entry c.requires))
