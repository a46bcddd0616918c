use Rattle.std.proofs.Common.{arith}
use Rattle.ref_index.proofs.SameListed.{no_want, none_yet, not_here, not_listed, same_there}
use Rattle.ref_index.proofs.Walks.{not_so}
use Rattle.ref_index.proofs.differences.first_same.Goals as goal

pub loop-i-init : goal.loop-i-init
loop-i-init c = none_yet c.args.listed.now c.args.at.now

pub loop-i-preserved : goal.loop-i-preserved
loop-i-preserved c =
    not_here c.args.listed.now c.loop-i.i no_want c.args.at.now c.loop-i-test.true c.loop-i.invariant
    (not_so c.is_same.result c.if-is_same.false c.is_same.ensures)

pub returns-then-is_same-clause-same : goal.returns-then-is_same-clause-same
returns-then-is_same-clause-same c =
    same_there c.args.listed.now c.loop-i.i no_want c.args.at.now c.loop-i-test.true (c.is_same.ensures.0 c.if-is_same.true)

pub returns-clause-same : goal.returns-clause-same
returns-clause-same c = not_listed c.args.listed.now c.loop-i.i c.args.at.now (omega (arith, c.loop-i-test.false)) c.loop-i.invariant
