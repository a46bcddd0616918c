use Rattle.std.proofs.Common.{◌≡◌, drop}
use Rattle.std.specs.Prelude.{bit_xor}
use Rattle.conf_doc.specs.contracts.configuration.EntryHash.TheImpl as fields
use Rattle.plan_search.specs.Hashes.{table_hash, joined}
use Rattle.plan_search.proofs.hashed.hash_config.Given as goal

-- what is joined and what is left make the whole
abbrev pub invariant-loop-i : goal.invariant-loop-i
invariant-loop-i l =
    let of = table_hash (fields.ghosts).hash_input in
    bit_xor l.hash (joined of (drop l.i l.config)) ≡ joined of l.config
