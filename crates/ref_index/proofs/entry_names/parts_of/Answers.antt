use Rattle.std.proofs.Common.{arith}
use Rattle.ref_index.proofs.Sides.{holds_more, holds_parts}
use Rattle.ref_index.proofs.entry_names.parts_of.Goals as goal

pub loop-i-preserved : goal.loop-i-preserved
loop-i-preserved c =
    holds_more c.args.names.now c.loop-i.parts c.add_parts_at.new.parts c.loop-i.i c.in_ok-add_parts_at.ensures.stay c.loop-i.invariant
    (λ name at. c.in_ok-add_parts_at.ensures.all name at)

pub returns : goal.returns
returns c =
    let past = c.loop-i-test.false in
    holds_parts c.args.names.now c.loop-i.parts c.loop-i.i (omega (arith, past)) c.loop-i.invariant
