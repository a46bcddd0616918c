use Rattle.std.proofs.Common.{sym, ◌∙◌, subst}
use Rattle.conf_check.specs.Rows.{IsPlaceOfEntry}
use Rattle.conf_check.proofs.Entries.{entry_placed, no_key, no_table, place_within, table_rises}
use Rattle.conf_check.proofs.name_places.place_of_entry.Goals as goal

pub part_at-requires : goal.part_at-requires
part_at-requires c = place_within c.args.config.now c.args.table.now c.in_ok-at.at (sym c.in_ok-at.was ∙ c.place_of_table.ensures)

pub returns-in_err-at : goal.returns-in_err-at
returns-in_err-at c =
    subst (IsPlaceOfEntry c.args.config.now c.args.table.now c.args.key.now) (sym c.from_residual.ensures)
    (no_table c.args.config.now c.args.table.now c.args.key.now (sym c.in_err-at.was ∙ c.place_of_table.ensures))

pub returns-in_err-entry : goal.returns-in_err-entry
returns-in_err-entry c =
    subst (IsPlaceOfEntry c.args.config.now c.args.table.now c.args.key.now) (sym c.from_residual-in_err-entry.ensures)
    (no_key c.args.config.now c.args.table.now c.args.key.now c.part_at.ensures.formed.shaped.rising c.in_ok-at.at c.part_at.result.now
    (sym c.in_ok-at.was ∙ c.place_of_table.ensures) c.part_at.ensures.part (sym c.in_err-entry.was ∙ c.place_in_table.ensures))

pub returns : goal.returns
returns c =
    entry_placed c.args.config.now c.args.table.now c.args.key.now c.part_at.ensures.formed.shaped.rising c.in_ok-at.at c.part_at.result.now
    (sym c.in_ok-at.was ∙ c.place_of_table.ensures) c.part_at.ensures.part c.in_ok-entry.entry
    (table_rises c.args.config.now c.in_ok-at.at c.part_at.result.now c.part_at.ensures.formed.parts c.part_at.ensures.part)
    (sym c.in_ok-entry.was ∙ c.place_in_table.ensures)
