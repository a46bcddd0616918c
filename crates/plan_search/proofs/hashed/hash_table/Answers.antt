use Rattle.std.proofs.Common.{◌+◌, drop, ap, ◌∙◌, arith}
use Rattle.std.specs.Prelude.{bit_xor}
use Rattle.std.specs.Int.Bits.{xor_zero_l}
use Rattle.conf_doc.specs.contracts.configuration.EntryHash.TheImpl as fields
use Rattle.plan_search.specs.Hashes.{entry_hash, joined}
use Rattle.plan_search.proofs.PairHashes.{joined_all, joined_more}
use Rattle.plan_search.proofs.hashed.hash_table.Goals as goal

pub loop-i-init : goal.loop-i-init
loop-i-init c = xor_zero_l (joined (entry_hash (fields.ghosts).hash_input c.args.name.now) c.args.table.now)

pub loop-i-preserved : goal.loop-i-preserved
loop-i-preserved c =
    let of = entry_hash (fields.ghosts).hash_input c.args.name.now in
    ap (λ x. bit_xor (bit_xor c.loop-i.hash x) (joined of (drop (c.loop-i.i + 1) c.args.table.now))) c.hash_entry-hash.ensures
    ∙ joined_more of c.args.table.now c.loop-i.i c.name_at.result.now c.part_at.result.now c.loop-i.hash (joined of c.args.table.now)
    c.name_at.ensures c.part_at.ensures.part c.loop-i.invariant

pub returns : goal.returns
returns c =
    let len = c.len-i-end.ensures.len in
    let past = c.loop-i-test.false in
    joined_all (entry_hash (fields.ghosts).hash_input c.args.name.now) c.args.table.now c.loop-i.i c.loop-i.hash (joined (entry_hash (fields.ghosts).hash_input c.args.name.now) c.args.table.now)
    (omega (arith, len, past)) c.loop-i.invariant
