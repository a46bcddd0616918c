use Rattle.std.proofs.Common.{sym, ap, subst, ◌∙◌, if◌then◌else◌}
use Rattle.conf_doc.specs.Blocks.{IsEdited}
use Rattle.conf_doc.specs.Pairs.{set_part}
use Rattle.conf_doc.proofs.Segments.{edited_at, edited_gap}
use Rattle.conf_doc.proofs.entries.edit_of.Goals as goal

pub returns-in-Ok : goal.returns-in-Ok
returns-in-Ok g c = λ part comes.
    subst (λ come. IsEdited c.in-Ok.at 1 come c.args.list.now (set_part c.args.name.now part c.args.list.now)) (ap (λ b. if b then 1 else 0) comes ∙ sym c.count_of-come.ensures)
    (edited_at c.args.list.now c.args.name.now c.in-Ok.at c.len.ensures.shaped.rising c.in-Ok.ensures.found part)

pub returns-in-Err : goal.returns-in-Err
returns-in-Err g c = λ part comes.
    subst (λ come. IsEdited c.in-Err.at 0 come c.args.list.now (set_part c.args.name.now part c.args.list.now)) (ap (λ b. if b then 1 else 0) comes ∙ sym c.count_of-come.ensures)
    (edited_gap c.args.list.now c.args.name.now c.in-Err.at c.len.ensures.shaped.rising c.in-Err.ensures.absent part)
