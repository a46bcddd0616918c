use Rattle.std.proofs.Common.{◌≡◌, ◌++◌, string_bytes, take}
use Rattle.conf_doc.specs.Joined.{ArePlainFields, joined_fields}
use Rattle.conf_doc.proofs.joining.join_fields.Given as goal

abbrev pub invariant-loop-i : goal.invariant-loop-i
invariant-loop-i l = record {
  text : string_bytes l.joined ≡ string_bytes l.fn.joined ++ joined_fields (take l.i l.fields);
  plain : ArePlainFields (take l.i l.fields);
}
