use Rattle.std.proofs.Common.{◌≡◌, ◌<◌, drop}
use Rattle.conf_check.specs.EqualItems.{slot, slot_from}
use Rattle.conf_check.proofs.equal_items.slot_of.Given as goal

abbrev pub invariant-loop-byte : goal.invariant-loop-byte
invariant-loop-byte l = record {
  value : slot_from l.slot (drop l.byte-index l.byte-items) ≡ slot l.text;
  within : l.slot < 16384;
}
