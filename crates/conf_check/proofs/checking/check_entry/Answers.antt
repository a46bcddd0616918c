use Rattle.std.proofs.Common.{sym, ◌∙◌}
use Rattle.conf_check.proofs.EntryBreaches.{absent_valid, first_broken, none_valid}
use Rattle.conf_check.proofs.checking.check_entry.Goals as goal

pub returns-in_default : goal.returns-in_default
returns-in_default c = absent_valid c.args.models.now c.args.config.now c.args.table.now c.args.key.now c.in_default.ensures

pub returns-in-Some-first_at : goal.returns-in-Some-first_at
returns-in-Some-first_at c =
    first_broken c.args.models.now c.args.config.now c.args.table.now c.args.key.now c.in-Some.at_table c.in-Some.at_key c.in-Some.ensures
    (sym c.modelled.ensures ∙ c.if-not-modelled.false) c.in-Some-first_at.fault c.violation_at.result c.violation_at.ensures
    c.in-Some-first_at.ensures

pub returns-in-None : goal.returns-in-None
returns-in-None c =
    none_valid c.args.models.now c.args.config.now c.args.table.now c.args.key.now c.in-Some.at_table c.in-Some.at_key c.in-Some.ensures
    c.in-None.ensures
