use Rattle.std.proofs.Common.{slice_get, sym, ap, ◌∙◌}
use Rattle.conf_doc.specs.contracts.configuration.EntryHash.TheImpl as fields
use Rattle.move_core.specs.Moves.{part_after, place, step}
use Rattle.plan_search.proofs.AfterMove.{hash_after}
use Rattle.plan_search.proofs.hashed.Hashed.after.Goals as goal

pub invariant_of-result : goal.invariant_of-result
invariant_of-result c =
    let cur = c.self.inside.config in
    let mv = c.args.mv.now in
    hash_after (fields.ghosts).hash_input c.name_at-table.result.now c.name_at-key.result.now cur c.args.next (place mv) (part_after cur mv)
    c.self.inside.hash c.hash_entry_at-old.result c.hash_entry_at-new.result c.len-tables.ensures.formed
    (ap (λ p. slice_get p 0) (sym c.place-place.ensures) ∙ c.name_at-table.ensures.name)
    (ap (λ p. slice_get p 1) (sym c.place-place.ensures) ∙ c.name_at-key.ensures.name)
    (c.requires ∙ ap (λ d. step d mv) (sym c.self.view_is)) c.self.invariant c.hash_entry_at-old.ensures c.hash_entry_at-new.ensures
