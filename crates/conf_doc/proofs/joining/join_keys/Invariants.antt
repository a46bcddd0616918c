use Rattle.std.proofs.Common.{◌≡◌, ◌-◌, string_bytes}
use Rattle.conf_doc.specs.Joined.{ArePlainEntries, bare, joined_entries, segment}
use Rattle.conf_doc.proofs.joining.join_keys.Given as goal

abbrev pub invariant-loop-i : goal.invariant-loop-i
invariant-loop-i l = record {
  text : string_bytes l.joined ≡ joined_entries (bare (segment l.from (l.i - l.from) l.list));
  plain : ArePlainEntries (bare (segment l.from (l.i - l.from) l.list));
}
