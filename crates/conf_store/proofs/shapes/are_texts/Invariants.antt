use Rattle.std.proofs.Common.{◌≡◌, true, take}
use Rattle.std.specs.List.{list_all}
use Rattle.conf_store.specs.Shapes.{is_text}
use Rattle.conf_store.proofs.shapes.are_texts.Given as goal

abbrev pub invariant-loop-i : goal.invariant-loop-i
invariant-loop-i l = list_all is_text (take l.i l.items) ≡ true
