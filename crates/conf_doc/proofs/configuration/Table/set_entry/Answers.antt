use Rattle.std.proofs.Common.{sym, subst}
use Rattle.conf_doc.specs.WellFormed.{IsTable}
use Rattle.conf_doc.proofs.WellFormed.{table_set}
use Rattle.conf_doc.proofs.configuration.Table.set_entry.Goals as goal

pub invariant_of-result : goal.invariant_of-result
invariant_of-result c =
    subst IsTable (sym c.in_ok-set.ensures) (table_set c.args.key.now c.args.entry c.self.inside.entries c.requires.named c.utf8.key c.requires.well c.self.invariant)

pub returns-clause-formed : goal.returns-clause-formed
returns-clause-formed c =
    subst IsTable (sym c.in_ok-set.ensures) (table_set c.args.key.now c.args.entry c.self.inside.entries c.requires.named c.utf8.key c.requires.well c.self.invariant)
