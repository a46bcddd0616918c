use Rattle.std.proofs.Common.{◌≡◌, ◌++◌, string_bytes, take}
use Rattle.conf_doc.specs.Joined.{ArePlain, joined_items}
use Rattle.conf_doc.proofs.joining.join_items.Given as goal

abbrev pub invariant-loop-item : goal.invariant-loop-item
invariant-loop-item l = record {
  text : string_bytes l.joined ≡ string_bytes l.fn.joined ++ joined_items (take l.item-index l.item-items);
  plain : ArePlain (take l.item-index l.item-items);
}
