use Rattle.std.proofs.Common.{sym, subst}
use Rattle.conf_doc.specs.WellFormed.{IsEntry}
use Rattle.conf_doc.proofs.WellFormed.{entry_set}
use Rattle.conf_doc.proofs.configuration.Entry.set_value.Goals as goal

pub invariant_of-result : goal.invariant_of-result
invariant_of-result c =
    subst IsEntry (sym c.in_ok-set.ensures) (entry_set c.args.field.now c.args.value c.self.inside.fields c.requires.named c.utf8.field c.requires.well c.self.invariant)

pub returns-clause-formed : goal.returns-clause-formed
returns-clause-formed c =
    subst IsEntry (sym c.in_ok-set.ensures) (entry_set c.args.field.now c.args.value c.self.inside.fields c.requires.named c.utf8.field c.requires.well c.self.invariant)
