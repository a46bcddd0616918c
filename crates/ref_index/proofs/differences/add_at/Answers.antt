use Rattle.std.proofs.Common.{subst}
use Rattle.std.specs.Prelude.{OnOk}
use Rattle.conf_check.specs.Rows.{IsEntryAt}
use Rattle.ref_index.specs.EntryNames.{Adds}
use Rattle.ref_index.specs.declared.entry_names.EntryName.{EntryName}
use Rattle.ref_index.proofs.NamedEntries.{got}
use Rattle.ref_index.proofs.differences.add_at.Goals as goal

pub returns-clause-gone : goal.returns-clause-gone
returns-clause-gone c = λ name at.
    let Is : EntryName → Type 0 = λ n.
    OnOk c.add_of_entry.result
    (Adds c.args.models.now c.args.config.now c.args.next.now (IsEntryAt c.args.config.now n.table.now n.key.now) c.args.changes.now.gone.items c.add_of_entry.new.changes.gone.items) in
    subst Is (got c.args.names.now c.args.i name _ at) c.add_of_entry.ensures.gone

pub returns-clause-come : goal.returns-clause-come
returns-clause-come c = λ name at.
    let Is : EntryName → Type 0 = λ n.
    OnOk c.add_of_entry.result
    (Adds c.args.models.now c.args.next.now c.args.config.now (IsEntryAt c.args.next.now n.table.now n.key.now) c.args.changes.now.come.items c.add_of_entry.new.changes.come.items) in
    subst Is (got c.args.names.now c.args.i name _ at) c.add_of_entry.ensures.come
