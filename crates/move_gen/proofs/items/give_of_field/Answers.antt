use Rattle.std.proofs.Common.{[], ◌∷◌}
use Rattle.move_gen.specs.ItemsGiven.{IsItemOfField}
use Rattle.move_gen.proofs.ListGrowth.{appends_none}
use Rattle.move_gen.proofs.items.give_of_field.Goals as goal

pub returns-then-is_text : goal.returns-then-is_text
returns-then-is_text c =
    let t = c.args.table.now in let k = c.args.key.now in let f = c.args.field.now in
    appends_none (IsItemOfField t k c.args.old.now f c.args.value.now) c.args.out.now.items
    (λ g h. c.is_text.ensures c.if-is_text.true (t ∷ k ∷ f ∷ []) h.before g h.is)
