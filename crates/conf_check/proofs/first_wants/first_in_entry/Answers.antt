use Rattle.std.proofs.Common.{sym, subst}
use Rattle.conf_check.specs.FirstWants.{IsFirstText, IsWantedIn}
use Rattle.conf_check.specs.Rows.{row_of}
use Rattle.conf_check.proofs.WantSlots.{past_parts}
use Rattle.conf_check.proofs.first_wants.first_in_entry.Goals as goal

pub returns-in-None-first_in_key-clause-first : goal.returns-in-None-first_in_key-clause-first
returns-in-None-first_in_key-clause-first c = λ table.
    let row = row_of table c.args.key.now c.args.fields.now in
    let o = c.first_from_field-in-None-first_in_key.result in
    subst (λ f. IsFirstText (IsWantedIn c.args.models.now c.args.config.now c.args.shape.now row) f c.args.item o) (sym c.in-None.is)
    (past_parts c.args.models.now c.args.config.now c.args.shape.now row c.args.item o c.in-None-first_in_key.ensures.first
    (c.first_from_field-in-None-first_in_key.ensures.first table c.args.key.now))
