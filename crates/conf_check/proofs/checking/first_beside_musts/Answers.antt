use Rattle.conf_check.specs.NodeTrees.{row_of_entry}
use Rattle.conf_check.proofs.EntryFaults.{part_first, field_is_first, missing_is_first, none_plain}
use Rattle.conf_check.proofs.checking.first_beside_musts.Goals as goal

pub returns-in-Some : goal.returns-in-Some
returns-in-Some c = λ t k.
    part_first c.args.models.now c.args.config.now t k (row_of_entry c.args.entry.now) c.args.entry.now.shape.now
    c.in-Some.field c.in-Some.ensures

pub returns-in-Some-first_of_fields : goal.returns-in-Some-first_of_fields
returns-in-Some-first_of_fields c = λ t k.
    field_is_first c.args.models.now c.args.config.now t k (row_of_entry c.args.entry.now) c.args.entry.now.shape.now
    c.in-Some-first_of_fields.fault c.in_default.ensures c.in-Some-first_of_fields.ensures

pub returns-in-Some-first_missing : goal.returns-in-Some-first_missing
returns-in-Some-first_missing c = λ t k.
    missing_is_first c.args.models.now c.args.config.now t k (row_of_entry c.args.entry.now) c.args.entry.now.shape.now
    c.in-Some-first_missing.field c.in_default.ensures c.in_default-first_of_fields.ensures c.in-Some-first_missing.ensures

pub returns-in-None : goal.returns-in-None
returns-in-None c = λ t k.
    none_plain c.args.models.now c.args.config.now t k (row_of_entry c.args.entry.now) c.args.entry.now.shape.now
    c.in_default.ensures c.in_default-first_of_fields.ensures c.in-None.ensures
