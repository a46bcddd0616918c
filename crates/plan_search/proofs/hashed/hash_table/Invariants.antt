use Rattle.std.proofs.Common.{◌≡◌, drop}
use Rattle.std.specs.Prelude.{bit_xor}
use Rattle.conf_doc.specs.contracts.configuration.EntryHash.TheImpl as fields
use Rattle.plan_search.specs.Hashes.{entry_hash, joined}
use Rattle.plan_search.proofs.hashed.hash_table.Given as goal

-- what is joined and what is left make the whole
abbrev pub invariant-loop-i : goal.invariant-loop-i
invariant-loop-i l =
    let of = entry_hash (fields.ghosts).hash_input l.name in
    bit_xor l.hash (joined of (drop l.i l.table)) ≡ joined of l.table
