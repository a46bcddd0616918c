use Rattle.std.proofs.Common.{◌≡◌, false, map, take}
use Rattle.yang_values.specs.Endless.{known_of, place_of, LeadTo}
use Rattle.yang_values.proofs.endless.next_round.Given as goal

abbrev pub invariant-loop-entry : goal.invariant-loop-entry
invariant-loop-entry l = record {
  places : map place_of l.more.items ≡ map place_of (take l.entry-index l.known);
  same : l.changed ≡ false → map known_of l.more.items ≡ map known_of (take l.entry-index l.known);
  right : LeadTo l.names l.text (map known_of l.known) (map known_of l.more.items);
}
