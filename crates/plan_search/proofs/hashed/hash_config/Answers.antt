use Rattle.std.proofs.Common.{◌+◌, drop, ap, ◌∙◌, arith}
use Rattle.std.specs.Prelude.{bit_xor}
use Rattle.std.specs.Int.Bits.{xor_zero_l}
use Rattle.conf_doc.specs.contracts.configuration.EntryHash.TheImpl as fields
use Rattle.plan_search.specs.Hashes.{table_hash, joined}
use Rattle.plan_search.proofs.PairHashes.{joined_all, joined_more}
use Rattle.plan_search.proofs.hashed.hash_config.Goals as goal

pub loop-i-init : goal.loop-i-init
loop-i-init c = xor_zero_l (joined (table_hash (fields.ghosts).hash_input) c.args.config.now)

pub loop-i-preserved : goal.loop-i-preserved
loop-i-preserved c =
    let of = table_hash (fields.ghosts).hash_input in
    ap (λ x. bit_xor (bit_xor c.loop-i.hash x) (joined of (drop (c.loop-i.i + 1) c.args.config.now))) c.hash_table-hash.ensures
    ∙ joined_more of c.args.config.now c.loop-i.i c.name_at.result.now c.part_at.result.now c.loop-i.hash (joined of c.args.config.now)
    c.name_at.ensures c.part_at.ensures.part c.loop-i.invariant

pub returns : goal.returns
returns c =
    let len = c.len-i-end.ensures.len in
    let past = c.loop-i-test.false in
    joined_all (table_hash (fields.ghosts).hash_input) c.args.config.now c.loop-i.i c.loop-i.hash (joined (table_hash (fields.ghosts).hash_input) c.args.config.now)
    (omega (arith, len, past)) c.loop-i.invariant
