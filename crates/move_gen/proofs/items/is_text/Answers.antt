use Rattle.move_gen.proofs.ItemMoves.{no_items}
use Rattle.move_gen.proofs.items.is_text.Goals as goal

pub returns-in-Text : goal.returns-in-Text
returns-in-Text c told = no_items c.args.value.now _ c.in-Text.is
