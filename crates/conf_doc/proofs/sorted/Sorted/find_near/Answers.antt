use Rattle.std.proofs.Common.{Some, refl, sym, ap, ◌∙◌}
use Rattle.std.specs.Cmp.Lexicographic.{same_text}
use Rattle.conf_doc.proofs.Edits.{find_at, find_beside}
use Rattle.conf_doc.proofs.sorted.Sorted.find_near.Goals as goal

pub returns-then-is_before : goal.returns-then-is_before
returns-then-is_before g c =
    sym (find_beside c.args.self.now c.args.name.now c.args.near c.len.ensures.shaped.rising c.requires (c.if-is_behind.ensures refl) (c.if-is_before.ensures refl))

pub returns-then-eq : goal.returns-then-eq
returns-then-eq g c =
    let named = c.name_at.ensures ∙ ap Some (same_text _ _ c.if-eq.ensures) in
    sym (find_at c.args.self.now c.args.name.now c.args.near c.len.ensures.shaped.rising named ∙ c.part_at.ensures)
