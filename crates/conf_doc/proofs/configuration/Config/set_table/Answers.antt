use Rattle.std.proofs.Common.{sym, subst}
use Rattle.conf_doc.specs.WellFormed.{IsConfig}
use Rattle.conf_doc.proofs.WellFormed.{config_set}
use Rattle.conf_doc.proofs.configuration.Config.set_table.Goals as goal

pub invariant_of-result : goal.invariant_of-result
invariant_of-result c =
    subst IsConfig (sym c.in_ok-set.ensures) (config_set c.args.name.now c.args.table c.self.inside.tables c.requires.named c.utf8.name c.requires.well c.self.invariant)

pub returns-clause-formed : goal.returns-clause-formed
returns-clause-formed c =
    subst IsConfig (sym c.in_ok-set.ensures) (config_set c.args.name.now c.args.table c.self.inside.tables c.requires.named c.utf8.name c.requires.well c.self.invariant)
